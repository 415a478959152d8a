-- When arrays show a machine.
use Rattle.std.specs.Prelude.{◌≡◌, ℕ}
use Rattle.rl_run.specs.Twin.{IsTwin}
use Rattle.rl_arrays.specs.declared.arrays.Arrays.{Arrays}
use Rattle.rl_arrays.specs.TableMachine.{machine}
use Rattle.rl_model.specs.declared.spec.Spec.{Spec}
use Rattle.rl_model.specs.Specification.{specification_of}
use Rattle.rl_model.specs.Trees.{context_of}
use Rattle.rl_minimal.specs.Minimal.{Minimal}
use Rattle.rl_minimal.specs.Machine.{min_machine}
use Rattle.rl_layout.specs.Books.{lists_of, order_of, number_in}

-- the number that an action has in the arrays of a machine
abbrev pub number_of : Minimal → ℕ → ℕ
number_of m = number_in (order_of (lists_of m.states))

-- the look-ups of the arrays are those of the machine, state by state, but for the numbers of actions
abbrev pub Shows : Spec → Minimal → Arrays → Type 0
Shows spec m a = IsTwin (min_machine m (context_of (specification_of spec))) (machine a) (number_of m) (λ q p. p ≡ q)
