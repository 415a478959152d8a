-- The runs of keys at which a state steps alike.
use Rattle.std.specs.Prelude.{ℕ, ◌+◌, ◌-◌, Bool, true, false, ◌&&◌, not, pos, ◌+ℤ◌, List, [], ◌∷◌, nat_eq, take, drop, if◌then◌else◌}
use Rattle.std.specs.Ordering.{int_eq}
use Rattle.std.specs.List.{filter}
use Rattle.rl_types.specs.declared.numbers.ActionId.{ActionId}
use Rattle.rl_types.specs.KeyRange.{Range}
use Rattle.rl_minimal.specs.declared.state.MinEdge.{MinEdge}
use Rattle.rl_minimal.specs.declared.state.MinState.{MinState}
use Rattle.rl_layout.specs.declared.runs.Run.{Run}
use Rattle.rl_layout.specs.declared.runs.Laid.{Laid}

-- the edges of a run, among those of its state
abbrev pub edges_of : List MinEdge → Run → List MinEdge
edges_of edges r = take (r.end - r.first) (drop r.first edges)

-- ---- edges of one range are one run

abbrev pub has_ends : Range → Run → Bool
has_ends range r = int_eq r.lo range.lo && int_eq r.hi range.hi

-- with an edge of a range, at a place: it joins the last run, if that has its range
abbrev pub with_edge : ℕ → Range → List Run → List Run
with_edge place range [] = record { lo = range.lo; hi = range.hi; first = place; end = place + 1 } ∷ []
with_edge place range (r ∷ []) = if has_ends range r then record r { end = place + 1 } ∷ [] else r ∷ record { lo = range.lo; hi = range.hi; first = place; end = place + 1 } ∷ []
with_edge place range (r ∷ s ∷ runs) = r ∷ with_edge place range (s ∷ runs)

abbrev pub grouped_on : ℕ → List Run → List MinEdge → List Run
grouped_on place runs [] = runs
grouped_on place runs (e ∷ edges) = grouped_on (place + 1) (with_edge place e.range runs) edges

-- the runs of equal ranges
abbrev pub grouped : List MinEdge → List Run
grouped edges = grouped_on 0 [] edges

-- ---- runs that adjoin and are alike are one run

abbrev pub same_actions : List ActionId → List ActionId → Bool
same_actions [] [] = true
same_actions [] (y ∷ ys) = false
same_actions (x ∷ xs) [] = false
same_actions (x ∷ xs) (y ∷ ys) = nat_eq x.0 y.0 && same_actions xs ys

-- the same step under the same conditions
abbrev pub same_step : MinEdge → MinEdge → Bool
same_step e f = nat_eq e.asks.0 f.asks.0 && nat_eq e.truths.0 f.truths.0 && nat_eq e.target f.target && same_actions e.list f.list

abbrev pub same_steps : List MinEdge → List MinEdge → Bool
same_steps [] [] = true
same_steps [] (f ∷ fs) = false
same_steps (e ∷ es) [] = false
same_steps (e ∷ es) (f ∷ fs) = same_step e f && same_steps es fs

abbrev pub continues : List MinEdge → Run → Run → Bool
continues edges r s = int_eq (r.hi +ℤ pos 1) s.lo && same_steps (edges_of edges r) (edges_of edges s)

-- with one more run: the last one goes on through it, if it adjoins and is alike
abbrev pub with_run : List MinEdge → Run → List Run → List Run
with_run edges s [] = s ∷ []
with_run edges s (r ∷ []) = if continues edges r s then record r { hi = s.hi } ∷ [] else r ∷ s ∷ []
with_run edges s (r ∷ q ∷ runs) = r ∷ with_run edges s (q ∷ runs)

abbrev pub merged_on : List MinEdge → List Run → List Run → List Run
merged_on edges runs [] = runs
merged_on edges runs (s ∷ rest) = merged_on edges (with_run edges s runs) rest

-- the maximal runs of consecutive keys at which a state steps alike
abbrev pub runs_of : List MinEdge → List Run
runs_of edges = merged_on edges [] (grouped edges)

-- ---- runs of one key stand before the others

abbrev pub is_single : Run → Bool
is_single r = int_eq r.lo r.hi

abbrev pub laid_of : MinState → Laid
laid_of s = record { singles = filter is_single (runs_of s.edges); ranges = filter (λ r. not (is_single r)) (runs_of s.edges) }
