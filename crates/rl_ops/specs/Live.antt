-- Which states of a machine some word leads from to a final one.
use Rattle.std.specs.Prelude.{◌≡◌, ℕ, suc, ◌<◌, ◌≤◌, Bool, true, false, ◌||◌, List, [], ◌∷◌, length, slice_get, slice_set, unwrap_or}
use Rattle.std.specs.List.{list_any}
use Rattle.rl_types.specs.declared.numbers.Letter.{Letter}
use Rattle.rl_automata.specs.Auto.{Auto, live_step}
use Rattle.rl_automata.specs.Nodes.{Ends}
use Rattle.rl_fsm.specs.declared.edge.Edge.{Edge}
use Rattle.rl_fsm.specs.Graphs.{Graph, fsm_auto, edges_at}

-- whether the state of this number is marked
abbrev pub live_at : List Bool → ℕ → Bool
live_at live i = unwrap_or (slice_get live i) false

-- the state is final, or an edge leads from it to a marked one
abbrev pub can_end : Graph → List Bool → ℕ → Bool
can_end m live i = (fsm_auto m).final i || list_any (λ (e : Edge). live_at live e.target) (edges_at m i)

-- the machine's automaton without the steps to what is not marked
abbrev pub only_marked : Graph → List Bool → Auto ℕ
only_marked m live = record (fsm_auto m) { step = live_step (fsm_auto m) (live_at live) }

-- some word leads from each marked state to a final one
abbrev pub AreLive : Graph → List Bool → Type 0
AreLive m live = (i : ℕ) → live_at live i ≡ true → (w : List Letter) × Ends (fsm_auto m) w i

-- how many states are not marked
abbrev pub unmarked : List Bool → ℕ
unmarked [] = 0
unmarked (true ∷ live) = unmarked live
unmarked (false ∷ live) = suc (unmarked live)

-- the state was marked, since it can end and was not marked yet; or it stays as it was
abbrev pub Visits : Graph → List Bool → List Bool → ℕ → Bool → Type 0
Visits m old new i true = (new ≡ slice_set old i true) × (live_at old i ≡ false) × (can_end m old i ≡ true)
Visits m old new i false = (new ≡ old) × (can_end m old i ≡ true → live_at old i ≡ true)

-- the states from the i-th on were visited, from the last one down; whether one was marked
pub record Sweeps (m : Graph) (old new : List Bool) (i : ℕ) (changed : Bool) : Type 0 where
  pub same_length : length new ≡ length old
  pub live : AreLive m old → AreLive m new
  pub kept : changed ≡ false → new ≡ old
  pub closed : changed ≡ false → (j : ℕ) → i ≤ j → j < length new → can_end m new j ≡ true → live_at new j ≡ true
  pub fewer : changed ≡ true → unmarked new < unmarked old
