-- The language of an expression without priorities: which words it matches. Words are split as a whole; there are no
-- configurations and no steps.
use Rattle.std.specs.Prelude.{◌≡◌, ◌≢◌, Bool, false, true, ◌||◌, List, [], ◌∷◌, ◌++◌, ◌⊎◌, IsTrue}
use Rattle.std.specs.List.{list_any}
use Rattle.rl_types.specs.declared.numbers.Letter.{Letter}
use Rattle.rl_types.specs.KeyRange.{in_range}
use Rattle.rl_sets.specs.Sets.{In, joined}
use Rattle.rl_automata.specs.declared.tree.Label.{Label}
use Rattle.rl_automata.specs.declared.tree.Label.TheVariants.{Action, Prior}
use Rattle.rl_automata.specs.Auto.{holds}
use Rattle.rl_automata.specs.Nodes as N
use Rattle.rl_automata.specs.Nodes.{Node}

-- The word is one of the expression's. A word of a concatenation is one of each operand, joined; one of a repetition is
-- any number of words of the operand, none of them empty, joined. Embeddings of actions change nothing.
abbrev pub IsWordOf : Node → List Letter → Type 0
IsWordOf (N.Set ranges) w = (l : Letter) × (w ≡ l ∷ []) × IsTrue (list_any (in_range l.key) ranges)
IsWordOf N.Null w = w ≡ []
IsWordOf N.Nothing w = ⊥
IsWordOf (N.Union a b) w = IsWordOf a w ⊎ IsWordOf b w
IsWordOf (N.And a b) w = IsWordOf a w × IsWordOf b w
IsWordOf (N.Minus a b) w = IsWordOf a w × ¬ IsWordOf b w
IsWordOf (N.Cat a b) w = (u v : List Letter) × (w ≡ u ++ v) × IsWordOf a u × IsWordOf b v
IsWordOf (N.Star a n) w = (us : List (List Letter)) × (w ≡ joined us) × ((u : List Letter) → In u us → (u ≢ []) × IsWordOf a u)
IsWordOf (N.Enter a l) w = IsWordOf a w
IsWordOf (N.Finish a l) w = IsWordOf a w
IsWordOf (N.All a l) w = IsWordOf a w
IsWordOf (N.Leave a l) w = IsWordOf a w
IsWordOf (N.Mark a class kind s x) w = IsWordOf a w
IsWordOf (N.When a c) w = IsWordOf a w × ((l : Letter) → In l w → IsTrue (holds c l.truths))

abbrev pub is_priority : Label → Bool
is_priority (Action s x) = false
is_priority (Prior s n v) = true

-- whether an embedding of a priority stands in the expression
abbrev pub has_priority : Node → Bool
has_priority (N.Set ranges) = false
has_priority N.Null = false
has_priority N.Nothing = false
has_priority (N.Union a b) = has_priority a || has_priority b
has_priority (N.And a b) = has_priority a || has_priority b
has_priority (N.Minus a b) = has_priority a || has_priority b
has_priority (N.Cat a b) = has_priority a || has_priority b
has_priority (N.Star a n) = has_priority a
has_priority (N.Enter a l) = is_priority l || has_priority a
has_priority (N.Finish a l) = is_priority l || has_priority a
has_priority (N.All a l) = is_priority l || has_priority a
has_priority (N.Leave a l) = is_priority l || has_priority a
has_priority (N.Mark a class kind s x) = has_priority a
has_priority (N.When a c) = has_priority a
