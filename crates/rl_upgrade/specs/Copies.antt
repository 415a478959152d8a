-- The arrays that stay, in groups, and all arrays together.
use Rattle.std.specs.Prelude.{pos}
use Rattle.rl_arrays.specs.declared.arrays.Arrays.{Arrays}
use Rattle.rl_upgrade.specs.declared.copies.Keys.{Keys}
use Rattle.rl_upgrade.specs.declared.copies.States.{States}
use Rattle.rl_upgrade.specs.declared.copies.Actions.{Actions}
use Rattle.rl_upgrade.specs.declared.copies.Names.{Names}
use Rattle.rl_upgrade.specs.declared.shares.Stored.{Stored}

abbrev pub keys_of : Arrays → Keys
keys_of a = record {
  actions = a.actions;
  offsets = a.key_offsets;
  keys = a.trans_keys;
  singles = a.single_lengths;
  ranges = a.range_lengths;
  cells = a.cell_offsets;
}

abbrev pub states_of : Arrays → States
states_of a = record {
  from = a.from_lists;
  to = a.to_lists;
  eof = a.eof_lists;
  error = a.error_lists;
  token = a.accept_lists;
  kinds = a.state_kinds;
  homes = a.homes;
}

abbrev pub actions_of : Arrays → Actions
actions_of a = record {
  firsts = a.stmt_firsts;
  counts = a.stmt_counts;
  kinds = a.stmt_kinds;
  outer = a.stmt_outer;
  args = a.stmt_args;
  bases = a.stmt_bases;
}

abbrev pub names_of : Arrays → Names
names_of a = record {
  machine = a.name;
  actions = a.action_names;
  conditions = a.cond_names;
  entries = a.entry_names;
  states = a.entry_states;
}

-- in version 2, with these arrays by group
abbrev pub gathered : Arrays → Keys → States → Actions → Names → Stored → Arrays
gathered a keys states actions names cells = record {
  version = pos 2;
  name = names.machine;
  start = a.start;
  first_final = a.first_final;
  alphabet = a.alphabet;
  actions = keys.actions;
  key_offsets = keys.offsets;
  trans_keys = keys.keys;
  single_lengths = keys.singles;
  range_lengths = keys.ranges;
  cell_offsets = keys.cells;
  cell_uses = cells.uses;
  cell_asks = cells.asks;
  cell_entries = cells.entries;
  trans_targs = cells.targets;
  trans_lists = cells.lists;
  from_lists = states.from;
  to_lists = states.to;
  eof_lists = states.eof;
  error_lists = states.error;
  accept_lists = states.token;
  state_kinds = states.kinds;
  homes = states.homes;
  action_names = names.actions;
  stmt_firsts = actions.firsts;
  stmt_counts = actions.counts;
  stmt_kinds = actions.kinds;
  stmt_outer = actions.outer;
  stmt_args = actions.args;
  stmt_bases = actions.bases;
  cond_names = names.conditions;
  entry_names = names.entries;
  entry_states = names.states;
}
