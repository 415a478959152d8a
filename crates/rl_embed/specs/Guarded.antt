-- Machines whose steps want a condition.
use Rattle.std.specs.Prelude.{ℕ, ℤ, ◌-◌, ◌^◌, Bool, false, cond, List, [], bit_or}
use Rattle.std.specs.List.{list_any}
use Rattle.rl_types.specs.KeyRange.{in_range}
use Rattle.rl_automata.specs.Auto.{Auto, on_part, guarded_step}
use Rattle.rl_fsm.specs.declared.edge.Edge.{Edge}
use Rattle.rl_fsm.specs.declared.state.Marks.{Marks}
use Rattle.rl_fsm.specs.declared.state.State.{State}
use Rattle.rl_fsm.specs.Graphs.{Graph, fsm_auto, state_at}

abbrev pub no_marks : Marks
no_marks = record { to = []; from = []; eof = []; error = [] }

-- the actions that stay with the state of this number
abbrev pub marks_at : Graph → ℕ → Marks
marks_at m i = on_part no_marks (λ (s : State). s.marks) (state_at m i)

-- one of the edges reads the key
abbrev pub reads_in : ℤ → List Edge → Bool
reads_in k es = list_any (λ (e : Edge). in_range k e.range) es

-- some edge of the state reads the key
abbrev pub reads_key : Graph → ℕ → ℤ → Bool
reads_key m i k = on_part false (λ (s : State). reads_in k s.edges) (state_at m i)

-- the machine's steps where the condition holds, which is asked at each key that an edge reads
abbrev pub guarded_auto : ℕ → Graph → Auto ℕ
guarded_auto c m = record (fsm_auto m) {
  step = guarded_step (fsm_auto m) c;
  asked = λ i k. cond (reads_key m i k) (bit_or (2 ^ (c - 1)) ((fsm_auto m).asked i k)) 0;
}
