-- A scanner's machine, as contracts see it.
use Rattle.std.specs.Prelude.{◌≡◌, ℕ, Bool, false, List, Option, None, nat_eq, length, slice_get, unwrap_or, EachIndex}
use Rattle.std.specs.List.{list_any}
use Rattle.rl_types.specs.declared.numbers.ActionId.{ActionId}
use Rattle.rl_fsm.specs.declared.edge.Edge.{Edge}
use Rattle.rl_fsm.specs.Graphs.{Graph, edges_at}

-- the machine, and for each of its states the token list, if the state is a match
pub record Scanned : Type 0 where
  pub machine : Graph
  pub tokens : List (Option (List ActionId))

-- the token list of the state; none where it is no match
abbrev pub token_at : List (Option (List ActionId)) → ℕ → Option (List ActionId)
token_at tokens i = unwrap_or (slice_get tokens i) None

-- whether one of the edges leads to the state
abbrev pub leads_to : ℕ → List Edge → Bool
leads_to state es = list_any (λ (e : Edge). nat_eq e.target state) es

-- no edge leads to the start
abbrev pub IsLeftForGood : Graph → Type 0
IsLeftForGood m = EachIndex m.states (λ i. leads_to m.start (edges_at m i) ≡ false)

-- each state has a list or none, no edge leads to the start, and the start is no match
pub record IsScanned (s : Scanned) : Type 0 where
  pub each : length s.tokens ≡ length s.machine.states
  pub left : IsLeftForGood s.machine
  pub begins : token_at s.tokens s.machine.start ≡ None
