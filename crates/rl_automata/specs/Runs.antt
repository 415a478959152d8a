-- The lists of actions that a word brings.
use Rattle.std.specs.Prelude.{ℕ, true, cond, List, [], ◌∷◌, pos}
use Rattle.rl_types.specs.declared.numbers.Letter.{Letter}
use Rattle.rl_labels.specs.Labels.{once}
use Rattle.rl_automata.specs.Auto.{Auto, on_part}
use Rattle.rl_automata.specs.Nodes as N
use Rattle.rl_automata.specs.Nodes.{Node}
use Rattle.rl_automata.specs.Marks.{Marks, auto}

-- the letters of these keys, at which no condition holds
abbrev pub letters : List ℕ → List Letter
letters [] = []
letters (k ∷ ks) = record { key = pos k; truths = 0 } ∷ letters ks

-- From c the list of actions of each step along the word, as far as it steps, and then, where the word ends in a final
-- configuration, the list of its leaving actions.
abbrev pub lists_from : {S : Type 0} → Auto S → List Letter → S → List (List ℕ)
lists_from A [] c = cond (A.final c) (once (A.out c).actions ∷ []) []
lists_from A (l ∷ w) c = on_part [] (λ m. once m.carry.actions ∷ lists_from A w m.to) (A.step c l)

abbrev pub lists : {S : Type 0} → Auto S → List Letter → List (List ℕ)
lists A w = lists_from A w A.start

-- tests that prune nothing
abbrev pub unpruned : (t : Node) → Marks t
unpruned (N.Set ranges) = tt
unpruned N.Null = tt
unpruned N.Nothing = tt
unpruned (N.Union a b) = (unpruned a, unpruned b)
unpruned (N.And a b) = (unpruned a, unpruned b, λ c. true)
unpruned (N.Minus a b) = (unpruned a, unpruned b, λ c. true)
unpruned (N.Cat a b) = (unpruned a, unpruned b)
unpruned (N.Star a n) = unpruned a
unpruned (N.Enter a l) = unpruned a
unpruned (N.Finish a l) = unpruned a
unpruned (N.All a l) = unpruned a
unpruned (N.Leave a l) = unpruned a
unpruned (N.Mark a class kind s x) = unpruned a
unpruned (N.When a c) = unpruned a

-- the lists of an expression's own automaton, not pruned, along the characters of these keys
abbrev pub lists_of : Node → List ℕ → List (List ℕ)
lists_of t keys = lists (auto t (unpruned t)) (letters keys)
