-- Where words lead.
use Rattle.std.specs.Prelude.{◌≡◌, ℕ, ◌≤◌, List, [], ◌∷◌, Option, Some, None, length}
use Rattle.std.specs.Option.{option_map}
use Rattle.rl_types.specs.declared.numbers.Letter.{Letter}
use Rattle.rl_minimal.specs.declared.state.MinEdge.{MinEdge}
use Rattle.rl_minimal.specs.Minimal.{Minimal}
use Rattle.rl_minimal.specs.Machine.{edge_for, edges_at, entry_at}

-- where the edge of the state that takes the letter leads
abbrev pub target_on : Minimal → ℕ → Letter → Option ℕ
target_on m i l = option_map (λ (e : MinEdge). e.target) (edge_for l (edges_at m i))

abbrev pub and_then : Option ℕ → (ℕ → Option ℕ) → Option ℕ
and_then None go = None
and_then (Some i) go = go i

-- the state that the word leads to from the i-th one, if there is an edge for each letter
abbrev pub walk : Minimal → List Letter → ℕ → Option ℕ
walk m [] i = Some i
walk m (l ∷ word) i = and_then (target_on m i l) (walk m word)

-- there is an entry of this number, from 1
pub record IsEntry (m : Minimal) (entry : ℕ) : Type 0 where
  pub first : 1 ≤ entry
  pub last : entry ≤ length m.entries

-- the word leads from the state of the entry of this number to the i-th state
pub record LeadsTo (m : Minimal) (entry : ℕ) (word : List Letter) (i : ℕ) : Type 0 where
  pub known : IsEntry m entry
  pub end : walk m word (entry_at m.entries entry) ≡ Some i
