-- What the tables of a Spec write.
use Rattle.std.specs.Prelude.{◌≡◌, ℕ, List, map}
use Rattle.rl_types.specs.declared.numbers.ActionId.{ActionId}
use Rattle.rl_run.specs.declared.sessions.Settings.{Settings}
use Rattle.rl_arrays.specs.declared.arrays.Arrays.{Arrays}
use Rattle.rl_arrays.specs.TableMachine.{machine}
use Rattle.rl_model.specs.declared.spec.Entry as rust_entry
use Rattle.rl_model.specs.declared.spec.Spec.{Spec}
use Rattle.rl_model.specs.Specification.{specification_of, roots_of}
use Rattle.rl_model.specs.Trees.{TestsOf, AreTestsHonest, HasHonestTests, tree_machine}
use Rattle.rl_fsm.specs.declared.root.EntryFsm.{EntryFsm}
use Rattle.rl_build.specs.Entries.{AreMachinesOf}
use Rattle.rl_build.specs.Roots.{IsTwinOf}
use Rattle.rl_layout.specs.SpecArrays.{name_of}
use Rattle.rl_replay.specs.declared.script.Line.{Line}
use Rattle.rl_replay.specs.Written.{written}
use Rattle.rl_script.specs.TableNames.{names_in}

-- the names of a Spec's entries, in text order
abbrev pub entry_names : Spec → List (List ℕ)
entry_names spec = map (λ (e : rust_entry.Entry). e.name) spec.entries

-- the names of its conditions, in the order of their numbers
abbrev pub condition_names : Spec → List (List ℕ)
condition_names spec = map (λ (a : ActionId). name_of spec.actions a.0) spec.conds

-- the arrays write for each script what the expressions of the Spec write, whatever its honest tests say
abbrev pub WritesAs : Spec → Arrays → Type 0
WritesAs spec a = (tests : TestsOf (specification_of spec)) → AreTestsHonest (specification_of spec) tests → (settings : Settings) (script : List Line) →
    written (names_in a) (machine a) settings script ≡ written (names_in a) (tree_machine (specification_of spec) tests) settings script

-- the machines are those of the Spec's entries: there are honest tests, and with any such the machines together are a twin of
-- the tree machine
pub record IsBuiltOf (spec : Spec) (entries : List EntryFsm) : Type 0 where
  pub machines : AreMachinesOf (roots_of (specification_of spec)) entries
  pub tests : HasHonestTests (specification_of spec)
  pub twin : (tests : TestsOf (specification_of spec)) → AreTestsHonest (specification_of spec) tests → IsTwinOf (specification_of spec) tests entries
