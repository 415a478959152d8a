-- What is proved of cuts, and rows that compute.
use Rattle.std.specs.Prelude.{◌≡◌, ◌↔◌, ℕ, pos, true, not, List, [], ◌∷◌, ◌++◌, map, get_or, Some}
use Rattle.std.specs.List.{filter}
use Rattle.rl_labels.specs.declared.stamped.Stamp.{Stamp}
use Rattle.rl_labels.specs.declared.priors.Prior.{Prior}
use Rattle.rl_sets.specs.Sets.{In, joined}
use Rattle.rl_labels.specs.Labels.{IsTable, entry_at, is_beaten, cut, is_cycle, table_of, lead, restamp, once}

-- the tables that none of them beats
abbrev pub survivors : List (List Prior) → List (List Prior)
survivors tables = filter (λ t. not (is_beaten tables t)) tables

-- two tables have equal values under each name that both have
abbrev pub Agree : List Prior → List Prior → Type 0
Agree t u = (n : ℕ) (p q : Prior) → entry_at n t ≡ Some p → entry_at n u ≡ Some q → p.value ≡ q.value

-- the places that the cut gives are those of the survivors, in order
abbrev pub CutGivesSurvivors : Type 0
CutGivesSurvivors = (tables : List (List Prior)) → map (λ k. get_or tables k []) (cut tables) ≡ survivors tables

-- any two survivors agree
abbrev pub SurvivorsAgree : Type 0
SurvivorsAgree = (tables : List (List Prior)) (t u : List Prior) → IsTable t → IsTable u → In t (survivors tables) → In u (survivors tables) → Agree t u

-- whichever of two survivors is put over the other, the outcome is the table of the entries of both
abbrev pub SurvivorsLeadAlike : Type 0
SurvivorsLeadAlike = (tables : List (List Prior)) (t u : List Prior) → IsTable t → IsTable u → In t (survivors tables) → In u (survivors tables)
    → (lead t u ≡ table_of (t ++ u)) × (lead u t ≡ table_of (t ++ u))

-- the table of all entries is the same in whatever order, and how often, the tables are listed
abbrev pub OrderIsFree : Type 0
OrderIsFree = (ts us : List (List Prior)) → ((t : List Prior) → In t ts ↔ In t us) → table_of (joined ts) ≡ table_of (joined us)

-- ---- rows

abbrev stamp : ℕ → ℕ → ℕ → Stamp
stamp major minor action = record { major = major; minor = minor; action = record { 0 = action } }

abbrev prior : ℕ → ℕ → ℕ → Prior
prior name stamp value = record { name = name; stamp = stamp; value = pos value }

-- three members, restamped by 7
abbrev pub RestampOfThree : Type 0
RestampOfThree = restamp 7 (stamp 1 0 5 ∷ stamp 2 0 4 ∷ stamp 2 1 5 ∷ []) ≡ stamp 7 0 5 ∷ stamp 7 1 4 ∷ stamp 7 2 5 ∷ []

-- action 5 stands twice: the later copy is removed
abbrev pub OnceOfThree : Type 0
OnceOfThree = once (stamp 1 0 5 ∷ stamp 2 0 4 ∷ stamp 3 0 5 ∷ []) ≡ 5 ∷ 4 ∷ []

-- the first beats the second under name 1, the second the third under 2, and the third the first under 3
abbrev pub three_in_a_ring : List (List Prior)
three_in_a_ring =
    (prior 1 1 1 ∷ prior 3 2 0 ∷ []) ∷ (prior 1 3 0 ∷ prior 2 4 1 ∷ []) ∷ (prior 2 5 0 ∷ prior 3 6 1 ∷ []) ∷ []

abbrev pub RingIsCycle : Type 0
RingIsCycle = is_cycle three_in_a_ring ≡ true

abbrev pub NothingIsLeftOfRing : Type 0
NothingIsLeftOfRing = cut three_in_a_ring ≡ []

-- under the one common name the second has the highest value
abbrev pub SecondIsLeft : Type 0
SecondIsLeft = cut ((prior 1 1 3 ∷ []) ∷ (prior 1 2 5 ∷ prior 2 3 0 ∷ []) ∷ (prior 1 4 4 ∷ prior 2 5 9 ∷ []) ∷ []) ≡ 1 ∷ []
