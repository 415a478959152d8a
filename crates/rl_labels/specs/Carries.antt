-- What a step or a final configuration carries: a set of stamped actions and a table of priorities.
use Rattle.std.specs.Prelude.{List, [], ◌∷◌, map}
use Rattle.rl_labels.specs.declared.stamped.Stamp.{Stamp}
use Rattle.rl_labels.specs.declared.priors.Prior.{Prior}
use Rattle.rl_labels.specs.declared.carry.Carry.{Carry}
use Rattle.rl_sets.specs.Sets.{joined}
use Rattle.rl_labels.specs.Labels.{stamps_of, table_of}

abbrev pub no_carry : Carry
no_carry = record { actions = []; table = [] }

abbrev pub actions_of : Carry → List Stamp
actions_of c = c.actions

abbrev pub tables_of : Carry → List Prior
tables_of c = c.table

-- the actions are joined, and under each name the greatest priority stays
abbrev pub all_of : List Carry → Carry
all_of cs = record {
  actions = stamps_of (joined (map (λ c. c.actions) cs));
  table = table_of (joined (map (λ c. c.table) cs));
}

abbrev pub both_of : Carry → Carry → Carry
both_of c d = all_of (c ∷ d ∷ [])
