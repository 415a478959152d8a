-- The lists of actions and the numbers of actions, by first use.
use Rattle.std.specs.Prelude.{ℕ, ◌+◌, Bool, ◌||◌, ℤ, pos, List, [], ◌∷◌, ◌++◌, length, map, Option, Some, None, nat_eq, if◌then◌else◌}
use Rattle.std.specs.List.{list_any, flat_map, position}
use Rattle.std.specs.Option.{option_map_or}
use Rattle.indexmap.specs.IndexSet.{insert_key}
use Rattle.rl_types.specs.declared.numbers.ActionId.{ActionId}
use Rattle.rl_minimal.specs.declared.state.MinEdge.{MinEdge}
use Rattle.rl_minimal.specs.declared.state.MinState.{MinState}
use Rattle.rl_layout.specs.Runs.{same_actions}
use Rattle.rl_layout.specs.Cells.{steps_of}

abbrev pub is_empty : List ActionId → Bool
is_empty list = nat_eq (length list) 0

-- with one more list, unless it is empty or there
abbrev pub with_list : List (List ActionId) → List ActionId → List (List ActionId)
with_list lists list = if is_empty list || list_any (same_actions list) lists then lists else lists ++ list ∷ []

abbrev pub with_lists : List (List ActionId) → List (List ActionId) → List (List ActionId)
with_lists lists [] = lists
with_lists lists (list ∷ more) = with_lists (with_list lists list) more

abbrev pub list_of : Option MinEdge → List ActionId
list_of None = []
list_of (Some e) = e.list

-- the lists of a state in the order of their use: its own, and then those of its entries
abbrev pub uses_of : MinState → List (List ActionId)
uses_of s = s.from ∷ s.to ∷ s.eof ∷ s.error ∷ s.token ∷ map list_of (steps_of s)

abbrev pub with_uses : List (List ActionId) → List MinState → List (List ActionId)
with_uses lists [] = lists
with_uses lists (s ∷ states) = with_uses (with_lists lists (uses_of s)) states

-- the lists of all states, each once, in the order of first use
abbrev pub lists_of : List MinState → List (List ActionId)
lists_of states = with_uses [] states

-- the place of a list that stands behind those before it, each with its length
abbrev pub place_from : ℕ → List (List ActionId) → List ActionId → ℕ
place_from place [] list = 0
place_from place (l ∷ lists) list = if same_actions list l then place else place_from (place + length l + 1) lists list

-- the number of a list; the empty one has place 0
abbrev pub place_in : List (List ActionId) → List ActionId → ℕ
place_in lists list = if is_empty list then 0 else place_from 1 lists list

-- the actions in the order of their first places in the lists
abbrev pub with_actions : List ℕ → List ActionId → List ℕ
with_actions order [] = order
with_actions order (a ∷ more) = with_actions (insert_key nat_eq order a.0) more

abbrev pub with_members : List ℕ → List (List ActionId) → List ℕ
with_members order [] = order
with_members order (l ∷ lists) = with_members (with_actions order l) lists

abbrev pub order_of : List (List ActionId) → List ℕ
order_of lists = with_members [] lists

-- the number of an action, from 1; 0 for one that stands in no list
abbrev pub number_in : List ℕ → ℕ → ℕ
number_in order a = option_map_or (λ i. i + 1) (position (nat_eq a) order) 0

abbrev pub members_of : List ℕ → List ActionId → List ℤ
members_of order list = map (λ (a : ActionId). pos (number_in order a.0)) list

-- a list as its length and its members
abbrev pub elements_of : List ℕ → List ActionId → List ℤ
elements_of order list = pos (length list) ∷ members_of order list

-- the empty list, and the others in order
abbrev pub actions_of : List ℕ → List (List ActionId) → List ℤ
actions_of order lists = pos 0 ∷ flat_map (elements_of order) lists
