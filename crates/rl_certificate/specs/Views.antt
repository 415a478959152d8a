-- What states show, and when two show the same.
use Rattle.std.specs.Prelude.{◌≡◌, ℕ, ℤ, Bool, List, [], map, Option, IsTrue, nat_le}
use Rattle.std.specs.Option.{option_map}
use Rattle.rl_types.specs.declared.numbers.ActionId.{ActionId}
use Rattle.rl_types.specs.declared.numbers.Letter.{Letter}
use Rattle.rl_fsm.specs.Reads.{asks_at}
use Rattle.rl_minimal.specs.declared.state.MinState.{MinState}
use Rattle.rl_minimal.specs.declared.state.MinEdge.{MinEdge}
use Rattle.rl_minimal.specs.Minimal.{Minimal, reads_of, at_state, kind_at, home_at}
use Rattle.rl_minimal.specs.Machine.{edge_for, edges_at}

-- the list of the step on a letter, if there is a step
abbrev pub list_on : Letter → List MinEdge → Option (List ActionId)
list_on l edges = option_map (λ (e : MinEdge). e.list) (edge_for l edges)

-- at every key both ask the same conditions, and on every letter both step, with the same list, or neither does
pub record StepAlike (es fs : List MinEdge) : Type 0 where
  pub asked : (key : ℤ) → asks_at key (map reads_of es) ≡ asks_at key (map reads_of fs)
  pub lists : (l : Letter) → list_on l es ≡ list_on l fs

-- a list of a state
abbrev pub list_at : (MinState → List ActionId) → Minimal → ℕ → List ActionId
list_at f m i = at_state [] f m.states i

-- The i-th state shows what the j-th one does: the same lists, verdict and kind, the same home where homes count, and
-- the same of its steps but for where they lead.
pub record ShowSame (m : Minimal) (homes : Bool) (i j : ℕ) : Type 0 where
  pub from : list_at (λ s. s.from) m i ≡ list_at (λ s. s.from) m j
  pub to : list_at (λ s. s.to) m i ≡ list_at (λ s. s.to) m j
  pub eof : list_at (λ s. s.eof) m i ≡ list_at (λ s. s.eof) m j
  pub error : list_at (λ s. s.error) m i ≡ list_at (λ s. s.error) m j
  pub token : list_at (λ s. s.token) m i ≡ list_at (λ s. s.token) m j
  pub verdict : nat_le m.first_final i ≡ nat_le m.first_final j
  pub kind : kind_at m.states i ≡ kind_at m.states j
  pub home : IsTrue homes → home_at m.states i ≡ home_at m.states j
  pub steps : StepAlike (edges_at m i) (edges_at m j)
