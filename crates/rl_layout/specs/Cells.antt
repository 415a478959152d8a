-- The cells of a state, their entries, and where they stand in arrays.
use Rattle.std.specs.Prelude.{ℕ, ◌+◌, ◌^◌, ℤ, pos, List, [], ◌∷◌, ◌++◌, length, map, Option, Some, None, nat_eq, count_ones}
use Rattle.std.specs.List.{find, flat_map, range_with_len}
use Rattle.rl_arrays.specs.TableMachine.{asked_bits, entry_number}
use Rattle.rl_minimal.specs.declared.state.MinEdge.{MinEdge}
use Rattle.rl_minimal.specs.declared.state.MinState.{MinState}
use Rattle.rl_layout.specs.declared.runs.Run.{Run}
use Rattle.rl_layout.specs.Runs.{edges_of, laid_of}

-- the runs of a state in the order of its cells
abbrev pub ordered_of : MinState → List Run
ordered_of s = (laid_of s).singles ++ (laid_of s).ranges

-- ---- keys

-- the single keys, and then each range as its low and its high
abbrev pub keys_of : MinState → List ℤ
keys_of s = map (λ r. r.lo) (laid_of s).singles ++ flat_map (λ r. r.lo ∷ r.hi ∷ []) (laid_of s).ranges

abbrev pub key_count : MinState → ℕ
key_count s = length (laid_of s).singles + (length (laid_of s).ranges + length (laid_of s).ranges)

abbrev pub cell_count : MinState → ℕ
cell_count s = length (laid_of s).singles + length (laid_of s).ranges

-- ---- cells

abbrev pub first_asks : List MinEdge → ℕ
first_asks [] = 0
first_asks (e ∷ es) = e.asks.0

-- the conditions that are asked at a run
abbrev pub asks_of : List MinEdge → Run → ℕ
asks_of edges r = first_asks (edges_of edges r)

-- how many entries the cell of a run has
abbrev pub entry_count : List MinEdge → Run → ℕ
entry_count edges r = 2 ^ count_ones (asks_of edges r)

-- ---- entries

-- the edge whose truths have the number of an entry
abbrev pub edge_at : ℕ → ℕ → List MinEdge → Option MinEdge
edge_at asks j edges = find (λ e. nat_eq (entry_number (asked_bits asks) e.truths.0) j) edges

abbrev pub steps_of_run : List MinEdge → Run → List (Option MinEdge)
steps_of_run edges r = map (λ j. edge_at (asks_of edges r) j (edges_of edges r)) (range_with_len 0 (entry_count edges r))

abbrev pub steps_of : MinState → List (Option MinEdge)
steps_of s = flat_map (steps_of_run s.edges) (ordered_of s)

abbrev pub target_of : Option MinEdge → ℕ
target_of None = 0
target_of (Some e) = e.target

-- ---- places

-- where things begin that take so many places one after another, from a place on
abbrev pub offsets : ℕ → List ℕ → List ℤ
offsets place [] = []
offsets place (n ∷ ns) = pos place ∷ offsets (place + n) ns
