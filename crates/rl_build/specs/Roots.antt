-- The machine that the machines of all entries make together, and the tree machine.
use Rattle.std.specs.Prelude.{ℕ, List}
use Rattle.rl_fsm.specs.declared.root.EntryFsm.{EntryFsm}
use Rattle.rl_run.specs.Twin.{IsTwin}
use Rattle.rl_model.specs.Parts.{StandsAt}
use Rattle.rl_model.specs.Specification.{Specification}
use Rattle.rl_model.specs.Trees.{ConfAt, TestsOf, context_of, tree_machine}
use Rattle.rl_root.specs.Roots.{part_at, root_machine}

-- the machine that the entries' machines make is a twin of the tree machine: a number stands for the configuration that
-- is its name
abbrev pub IsTwinOf : (spec : Specification) → TestsOf spec → List EntryFsm → Type 0
IsTwinOf spec tests entries = (name : (e : ℕ) → ℕ → ConfAt spec e) ×
    IsTwin (tree_machine spec tests) (root_machine entries (context_of spec)) (λ a. a) (StandsAt (ConfAt spec) (λ e. ℕ) (part_at entries) name)
