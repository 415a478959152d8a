-- Runs, one after another.
use Rattle.std.proofs.Common.{◌≡◌, ℕ, ◌+◌, true, false, List, [], ◌∷◌, ◌++◌, refl, ap, append_assoc}
use Rattle.rl_types.specs.KeyRange.{Range}
use Rattle.rl_minimal.specs.declared.state.MinEdge.{MinEdge}
use Rattle.rl_layout.specs.declared.runs.Run.{Run}
use Rattle.rl_layout.specs.Runs.{has_ends, with_edge, continues, with_run}

abbrev pub alone : ℕ → Range → Run
alone place range = record { lo = range.lo; hi = range.hi; first = place; end = place + 1 }

-- the last run is all that is looked at
pub with_edge-push : (place : ℕ) (range : Range) (runs : List Run) (r : Run) → with_edge place range (runs ++ r ∷ []) ≡ runs ++ with_edge place range (r ∷ [])
with_edge-push place range [] r = refl
with_edge-push place range (q ∷ []) r = refl
with_edge-push place range (q ∷ s ∷ runs) r = ap (λ rs. q ∷ rs) (with_edge-push place range (s ∷ runs) r)

pub with_run-push : (edges : List MinEdge) (s : Run) (runs : List Run) (r : Run) → with_run edges s (runs ++ r ∷ []) ≡ runs ++ with_run edges s (r ∷ [])
with_run-push edges s [] r = refl
with_run-push edges s (q ∷ []) r = refl
with_run-push edges s (q ∷ t ∷ runs) r = ap (λ rs. q ∷ rs) (with_run-push edges s (t ∷ runs) r)

pub edge_joins : (place : ℕ) (range : Range) (old popped new : List Run) (last : Run) → old ≡ popped ++ last ∷ [] → has_ends range last ≡ true → new ≡ popped ++ (record last { end = place + 1 }) ∷ [] → new ≡ with_edge place range old
edge_joins place range old popped new last was same is = rw (is, was, with_edge-push place range popped last, same) refl

pub edge_alone : (place : ℕ) (range : Range) (old popped back new : List Run) (last : Run) → old ≡ popped ++ last ∷ [] → has_ends range last ≡ false → back ≡ popped ++ last ∷ [] → new ≡ back ++ alone place range ∷ [] → new ≡ with_edge place range old
edge_alone place range old popped back new last was other put is = rw (is, put, was, with_edge-push place range popped last, other) (append_assoc popped (last ∷ []) (alone place range ∷ []))

pub run_joins : (edges : List MinEdge) (s : Run) (old popped new : List Run) (last : Run) → old ≡ popped ++ last ∷ [] → continues edges last s ≡ true → new ≡ popped ++ (record last { hi = s.hi }) ∷ [] → new ≡ with_run edges s old
run_joins edges s old popped new last was same is = rw (is, was, with_run-push edges s popped last, same) refl

pub run_alone : (edges : List MinEdge) (s : Run) (old popped back new : List Run) (last : Run) → old ≡ popped ++ last ∷ [] → continues edges last s ≡ false → back ≡ popped ++ last ∷ [] → new ≡ back ++ s ∷ [] → new ≡ with_run edges s old
run_alone edges s old popped back new last was other put is = rw (is, put, was, with_run-push edges s popped last, other) (append_assoc popped (last ∷ []) (s ∷ []))
