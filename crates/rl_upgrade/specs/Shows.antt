-- What tables of another version have in common: every look-up.
use Rattle.std.specs.Prelude.{◌≡◌}
use Rattle.rl_run.specs.Twin.{IsTwin}
use Rattle.rl_arrays.specs.declared.arrays.Arrays.{Arrays}
use Rattle.rl_arrays.specs.TableMachine.{machine}

-- the look-ups of both are the same, for every state, key and conditions that hold, with the same numbers of states and actions
abbrev pub ShowsSame : Arrays → Arrays → Type 0
ShowsSame a b = IsTwin (machine a) (machine b) (λ action. action) (λ state other. other ≡ state)
