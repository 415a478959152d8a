-- The machine that states stand for: its look-ups.
use Rattle.std.specs.Prelude.{ℕ, ◌==◌, zero, suc, List, [], map, Option, Some, None, nat_le, slice_get, unwrap_or}
use Rattle.std.specs.Option.{option_map}
use Rattle.std.specs.List.{find}
use Rattle.rl_types.specs.declared.numbers.Letter.{Letter}
use Rattle.rl_fsm.specs.Reads.{takes, asks_at}
use Rattle.rl_run.specs.Machine.{Go, Machine}
use Rattle.rl_model.specs.Parts.{Context, letter_of}
use Rattle.rl_minimal.specs.declared.state.MinState.{MinState}
use Rattle.rl_minimal.specs.declared.state.MinEdge.{MinEdge}
use Rattle.rl_minimal.specs.Minimal.{Minimal, reads_of, numbers, at_state, kind_at, home_at}

-- the edge that takes a letter
abbrev pub edge_for : Letter → List MinEdge → Option MinEdge
edge_for l es = find (λ e. takes l (reads_of e)) es

abbrev pub go_of : MinEdge → Go ℕ
go_of e = record { target = e.target; list = numbers e.list }

abbrev pub edges_at : Minimal → ℕ → List MinEdge
edges_at m i = at_state [] (λ s. s.edges) m.states i

-- the state of the entry with a number, from 1; Error where there is none
abbrev pub entry_at : List ℕ → ℕ → ℕ
entry_at entries zero = 0
entry_at entries (suc e) = unwrap_or (slice_get entries e) 0

-- state 0 is Error
abbrev pub min_machine : Minimal → Context → Machine ℕ
min_machine m context = record {
  width = context.width;
  key_of = context.key_of;
  asked = λ i key. asks_at key.0 (map reads_of (edges_at m i));
  find = λ i key hold. option_map go_of (edge_for (letter_of key hold) (edges_at m i));
  from = at_state [] (λ s. numbers s.from) m.states;
  to = at_state [] (λ s. numbers s.to) m.states;
  error = at_state [] (λ s. numbers s.error) m.states;
  eof = at_state [] (λ s. numbers s.eof) m.states;
  token = at_state [] (λ s. numbers s.token) m.states;
  kind = kind_at m.states;
  final = λ i. nat_le m.first_final i;
  home = home_at m.states;
  failed = 0;
  is_failed = λ i. i == 0;
  entry = entry_at m.entries;
  statement = context.statement;
  action_name = context.action_name;
  condition_name = context.condition_name;
  entry_name = context.entry_name;
}
