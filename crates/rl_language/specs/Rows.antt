-- Small expressions and some of their words.
use Rattle.std.specs.Prelude.{ℕ, pos, List, [], ◌∷◌, codes}
use Rattle.rl_types.specs.declared.numbers.Letter.{Letter}
use Rattle.rl_automata.specs.Nodes as N
use Rattle.rl_automata.specs.Nodes.{Node}
use Rattle.rl_automata.specs.Runs.{letters}
use Rattle.rl_automata.specs.Language.{IsWordOf}
use Rattle.rl_model.specs.Sources.{one, two, any, act}

-- it has the text, at whose characters no condition holds
abbrev pub Has : Node → List ℕ → Type 0
Has t text = IsWordOf t (letters text)

abbrev pub HasNot : Node → List ℕ → Type 0
HasNot t text = ¬ Has t text

-- ('ab' | 'c')*: any number of rounds, none included, each of them whole
abbrev pub rounds : Node
rounds = N.Star (N.Union (two 97 98) (one 99)) 1

abbrev pub RoundsAreWhole : Type 0
RoundsAreWhole = Has rounds [] × Has rounds (codes "abcab") × HasNot rounds (codes "aba")

-- any* 'b' any*: the texts with a b; any* - (any* 'b' any*): those without one
abbrev pub with_b : Node
with_b = N.Cat (N.Cat (N.Star any 1) (one 98)) (N.Star any 2)

abbrev pub without_b : Node
without_b = N.Minus (N.Star any 3) with_b

abbrev pub ADifferenceIsTheRest : Type 0
ADifferenceIsTheRest = Has with_b (codes "abc") × HasNot without_b (codes "abc") × HasNot with_b (codes "acc") × Has without_b (codes "acc")

-- ('a' $A)* & ('aa')*: an even number of a's; the action changes nothing
abbrev pub evens : Node
evens = N.And (N.Star (N.All (one 97) (act 1 (codes "A", 1))) 2) (N.Star (two 97 97) 3)

abbrev pub AnIntersectionIsInBoth : Type 0
AnIntersectionIsInBoth = Has evens (codes "aaaa") × HasNot evens (codes "aaa")

-- ('a' when c)* 'b', where c is the first condition: each a has it
abbrev pub guarded : Node
guarded = N.Cat (N.Star (N.When (one 97) 1) 1) (one 98)

abbrev pub at : ℕ → ℕ → Letter
at key truths = record { key = pos key; truths = truths }

abbrev pub EachLetterHasTheCondition : Type 0
EachLetterHasTheCondition =
    IsWordOf guarded (at 97 1 ∷ at 97 3 ∷ at 98 0 ∷ []) × ¬ IsWordOf guarded (at 97 1 ∷ at 97 2 ∷ at 98 0 ∷ [])
