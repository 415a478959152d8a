-- The names that tables have.
use Rattle.std.specs.Prelude.{drop}
use Rattle.rl_arrays.specs.declared.arrays.Arrays.{Arrays}
use Rattle.rl_replay.specs.Sessions.{Names}

-- the names that arrays have, each kind behind its empty one
abbrev pub names_in : Arrays → Names
names_in a = record { entries = drop 1 a.entry_names; actions = drop 1 a.action_names; conditions = drop 1 a.cond_names }
