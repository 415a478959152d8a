-- Steps, numbers and entries of tables.
use Rattle.std.specs.Prelude.{ℕ, ◌<◌, ◌≤◌, ◌^◌, ℤ, pos, ◌≤ℤ◌, ◌<ℤ◌, Option, Some, None, length}
use Rattle.rl_run.specs.Machine.{Go}
use Rattle.rl_arrays.specs.declared.arrays.Arrays.{Arrays}
use Rattle.rl_arrays.specs.Lists.{IsList, members}
use Rattle.rl_arrays.specs.Sizes.{states}
use Rattle.rl_tables.specs.declared.step.Step.{Step}
use Rattle.rl_tables.specs.declared.step.Step.TheVariants.{Stay, Go as Goes}

-- the step that was looked up, with the members of its list
abbrev pub go_by : Arrays → Step → Option (Go ℕ)
go_by a Stay = None
go_by a (Goes target list) = Some (record { target = target; list = members a.actions list })

-- its target is a state, and its list is one
abbrev pub IsStep : Arrays → Step → Type 0
IsStep a Stay = Unit {0}
IsStep a (Goes target list) = (target < states a) × IsList a.actions (pos list)

-- the number of an entry
abbrev pub IsEntryNumber : Arrays → ℕ → Type 0
IsEntryNumber a e = (1 ≤ e) × (e < length a.entry_names)

-- a number that an id can have
abbrev pub IsId : ℤ → Type 0
IsId n = (pos 0 ≤ℤ n) × (n <ℤ pos (2 ^ 32))
