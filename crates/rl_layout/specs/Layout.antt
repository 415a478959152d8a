-- The arrays of a machine.
use Rattle.std.specs.Prelude.{ℕ, ℤ, pos, List, [], ◌∷◌, ◌++◌, length, map}
use Rattle.std.specs.List.{flat_map}
use Rattle.rl_types.specs.declared.numbers.ActionId.{ActionId}
use Rattle.rl_model.specs.declared.spec.ActionDef.{ActionDef}
use Rattle.rl_model.specs.declared.spec.Entry.{Entry}
use Rattle.rl_model.specs.declared.spec.Spec.{Spec}
use Rattle.rl_arrays.specs.declared.arrays.Arrays.{Arrays}
use Rattle.rl_minimal.specs.declared.state.MinState.{MinState}
use Rattle.rl_minimal.specs.Minimal.{Minimal}
use Rattle.rl_layout.specs.declared.lay.Keys.{Keys}
use Rattle.rl_layout.specs.declared.lay.Cells.{Cells}
use Rattle.rl_layout.specs.declared.lay.States.{States}
use Rattle.rl_layout.specs.declared.lay.Statements.{Statements}
use Rattle.rl_layout.specs.declared.lay.Names.{Names}
use Rattle.rl_layout.specs.declared.lay.Ends.{Ends}
use Rattle.rl_layout.specs.declared.states.StateArray.TheVariants as by
use Rattle.rl_layout.specs.declared.statements.StatementArray.TheVariants as of
use Rattle.rl_layout.specs.Runs.{laid_of}
use Rattle.rl_layout.specs.Cells.{keys_of, key_count, cell_count, offsets}
use Rattle.rl_layout.specs.Books.{lists_of, order_of, actions_of}
use Rattle.rl_layout.specs.Shares.{cells_used, stored}
use Rattle.rl_layout.specs.StateArrays.{value_of}
use Rattle.rl_layout.specs.SpecArrays.{statements_of, name_of, element_of, alphabet_number, start_of}

abbrev pub keys_laid : List MinState → Keys
keys_laid states = record {
  offsets = offsets 0 (map key_count states);
  keys = flat_map keys_of states ++ pos 0 ∷ [];
  singles = map (λ s. pos (length (laid_of s).singles)) states;
  ranges = map (λ s. pos (length (laid_of s).ranges)) states;
}

abbrev pub cells_laid : List (List ActionId) → List MinState → Cells
cells_laid lists states =
    let own = stored (cells_used lists states) in
    record { offsets = offsets 0 (map cell_count states); uses = own.uses; asks = own.asks; entries = own.entries; targets = own.targets; lists = own.lists }

abbrev pub states_laid : List (List ActionId) → List MinState → States
states_laid lists states = record {
  from = map (λ s. pos (value_of by.From lists s)) states;
  to = map (λ s. pos (value_of by.To lists s)) states;
  eof = map (λ s. pos (value_of by.Eof lists s)) states;
  error = map (λ s. pos (value_of by.Error lists s)) states;
  token = map (λ s. pos (value_of by.Token lists s)) states;
  kinds = map (λ s. pos (value_of by.Kind lists s)) states;
  homes = map (λ s. pos (value_of by.Home lists s)) states;
}

abbrev pub statements_laid : List ActionDef → List ℕ → Statements
statements_laid actions order = record {
  firsts = pos 0 ∷ offsets 1 (map (λ a. length (statements_of actions a)) order);
  counts = pos 0 ∷ map pos (map (λ a. length (statements_of actions a)) order);
  kinds = pos 0 ∷ flat_map (λ a. map (element_of of.Kind) (statements_of actions a)) order;
  outer = pos 0 ∷ flat_map (λ a. map (element_of of.Outer) (statements_of actions a)) order;
  args = pos 0 ∷ flat_map (λ a. map (element_of of.Argument) (statements_of actions a)) order;
  bases = pos 0 ∷ flat_map (λ a. map (element_of of.Base) (statements_of actions a)) order;
}

abbrev pub names_laid : Spec → List ℕ → Names
names_laid spec order = record {
  machine = spec.machine;
  actions = [] ∷ map (name_of spec.actions) order;
  conditions = [] ∷ map (λ (a : ActionId). name_of spec.actions a.0) spec.conds;
  entries = [] ∷ map (λ (e : Entry). e.name) spec.entries;
}

abbrev pub ends_laid : Spec → Minimal → Ends
ends_laid spec m = record {
  start = pos (start_of spec.entries m.entries);
  first_final = pos m.first_final;
  alphabet = alphabet_number spec.alphabet;
  entry_states = pos 0 ∷ map pos m.entries;
}

abbrev pub gathered : List ℤ → Ends → Names → Keys → Cells → States → Statements → Arrays
gathered actions ends names keys cells states statements = record {
  version = pos 2;
  name = names.machine;
  start = ends.start;
  first_final = ends.first_final;
  alphabet = ends.alphabet;
  actions = actions;
  key_offsets = keys.offsets;
  trans_keys = keys.keys;
  single_lengths = keys.singles;
  range_lengths = keys.ranges;
  cell_offsets = cells.offsets;
  cell_uses = cells.uses;
  cell_asks = cells.asks;
  cell_entries = cells.entries;
  trans_targs = cells.targets;
  trans_lists = cells.lists;
  from_lists = states.from;
  to_lists = states.to;
  eof_lists = states.eof;
  error_lists = states.error;
  accept_lists = states.token;
  state_kinds = states.kinds;
  homes = states.homes;
  action_names = names.actions;
  stmt_firsts = statements.firsts;
  stmt_counts = statements.counts;
  stmt_kinds = statements.kinds;
  stmt_outer = statements.outer;
  stmt_args = statements.args;
  stmt_bases = statements.bases;
  cond_names = names.conditions;
  entry_names = names.entries;
  entry_states = ends.entry_states;
}

-- the arrays of a machine whose actions, conditions and entries are those of a Spec
abbrev pub arrays_laid : Spec → List (List ActionId) → List ℕ → Minimal → Arrays
arrays_laid spec lists order m = gathered (actions_of order lists) (ends_laid spec m) (names_laid spec order) (keys_laid m.states) (cells_laid lists m.states) (states_laid lists m.states) (statements_laid spec.actions order)

unfoldable pub arrays_of : Spec → Minimal → Arrays
arrays_of spec m = arrays_laid spec (lists_of m.states) (order_of (lists_of m.states)) m
