-- What contracts see of a machine that can be laid out in tables.
use Rattle.std.specs.Prelude.{ℕ, List, [], Option, slice_get, map}
use Rattle.std.specs.Option.{option_map_or}
use Rattle.rl_types.specs.declared.numbers.ActionId.{ActionId}
use Rattle.rl_fsm.specs.Reads.{Reads}
use Rattle.rl_minimal.specs.declared.state.MinState.{MinState}
use Rattle.rl_minimal.specs.declared.state.MinEdge.{MinEdge}

-- the states, of which the first is Error; the entries' states in order; and the least final state
pub record Minimal : Type 0 where
  pub states : List MinState
  pub entries : List ℕ
  pub first_final : ℕ

abbrev pub reads_of : MinEdge → Reads
reads_of e = record { range = e.range; asks = e.asks.0; truths = e.truths.0 }

-- the numbers of the listed actions
abbrev pub numbers : List ActionId → List ℕ
numbers list = map (λ (a : ActionId). a.0) list

-- what stands at a state, or d where there is none
abbrev pub at_state : {X : Type 0} → X → (MinState → X) → List MinState → ℕ → X
at_state d f states i = option_map_or f (slice_get states i) d

abbrev pub kind_at : List MinState → ℕ → ℕ
kind_at states i = at_state 0 (λ s. s.kind) states i

abbrev pub home_at : List MinState → ℕ → ℕ
home_at states i = at_state 0 (λ s. s.home) states i
