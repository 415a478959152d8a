-- Which words a scanner's patterns have, which token a word makes, and which is the longest match in front of a word.
use Rattle.std.specs.Prelude.{◌≡◌, ◌≢◌, ℕ, ◌≤◌, false, cond, List, [], ◌∷◌, ◌++◌, ◌⊎◌, Option, Some, None, length}
use Rattle.std.specs.Option.{option_map, option_or}
use Rattle.rl_types.specs.declared.numbers.Letter.{Letter}
use Rattle.rl_labels.specs.Labels.{once}
use Rattle.rl_automata.specs.declared.moves.Move.{Move}
use Rattle.rl_automata.specs.Auto.{Auto, on_part}
use Rattle.rl_automata.specs.Marks.{auto}
use Rattle.rl_automata.specs.Scans.{Pattern, PatternMarks, with_token}
use Rattle.rl_automata.specs.Language.{IsWordOf, has_priority}
use Rattle.rl_model.specs.Parts.{Part}

-- the word is one of some pattern's
abbrev pub IsWordOfSome : List Pattern → List Letter → Type 0
IsWordOfSome [] w = ⊥
IsWordOfSome (p ∷ ps) w = IsWordOf p.tree w ⊎ IsWordOfSome ps w

-- no priority is embedded in the patterns
abbrev pub ArePatternsWithoutPriorities : List Pattern → Type 0
ArePatternsWithoutPriorities [] = Unit {0}
ArePatternsWithoutPriorities (p ∷ ps) = (has_priority p.tree ≡ false) × ArePatternsWithoutPriorities ps

-- the word leads from one configuration to the other
abbrev pub Leads : {S : Type 0} → Auto S → List Letter → S → S → Type 0
Leads A [] c d = c ≡ d
Leads A (l ∷ w) c d = (m : Move _) × (A.step c l ≡ Some m) × Leads A w m.to d

-- the leaving actions where the word leads from c; none where it leads nowhere
abbrev pub leaving : {S : Type 0} → Auto S → List Letter → S → List ℕ
leaving A [] c = once (A.out c).actions
leaving A (l ∷ w) c = on_part [] (λ m. leaving A w m.to) (A.step c l)

-- The word makes this token: the actions of the first pattern that has the word, those that are left at its end and then
-- its own; none where no pattern has it.
abbrev pub MakesToken : (ps : List Pattern) → PatternMarks ps → List Letter → Option (List ℕ) → Type 0
MakesToken [] k w token = token ≡ None
MakesToken (p ∷ ps) k w token =
    (IsWordOf p.tree w → token ≡ Some (with_token p.token (leaving (auto p.tree k.0) w (auto p.tree k.0).start)))
    × (¬ IsWordOf p.tree w → MakesToken ps k.1 w token)

-- ---- the longest match

-- the word u, which is not empty, is at the front of w
abbrev pub IsFront : List Letter → List Letter → Type 0
IsFront u w = (u ≢ []) × (v : List Letter) × (w ≡ u ++ v)

-- u is the longest front of w that some pattern has
pub record IsLongest (ps : List Pattern) (w u : List Letter) : Type 0 where
  pub front : IsFront u w
  pub has : IsWordOfSome ps u
  pub longest : (v : List Letter) → IsFront v w → IsWordOfSome ps v → length v ≤ length u

-- no pattern has a front of w
abbrev pub HasNoFront : List Pattern → List Letter → Type 0
HasNoFront ps w = (u : List Letter) → IsFront u w → ¬ IsWordOfSome ps u

-- this is found in front of w: the longest front that some pattern has, with its token; none where no pattern has one
abbrev pub IsMatch : (ps : List Pattern) → PatternMarks ps → List Letter → Option (List Letter × List ℕ) → Type 0
IsMatch ps k w None = HasNoFront ps w
IsMatch ps k w (Some found) = IsLongest ps w found.0 × MakesToken ps k found.0 (Some found.1)

-- the token list of a match; none where the state is no match
abbrev pub match_in : {S : Type 0} → Part S → S → Option (List ℕ)
match_in p s = cond (p.auto.final s) (Some (p.token s)) None

-- the last match on the way along a word: the letters that lead to it, and its token list
abbrev pub last_match : {S : Type 0} → Part S → List Letter → S → Option (List Letter × List ℕ)
last_match p [] s = None
last_match p (l ∷ w) s =
    on_part None (λ m. option_map (λ found. (l ∷ found.0, found.1)) (option_or (last_match p w m.to) (option_map (λ token. ([], token)) (match_in p m.to)))) (p.auto.step s l)

-- What a scanner finds along words. The state that a word leads to has the word's token; the last match on the way along
-- a word is at the longest front of it that some pattern has; and where no step is on a letter, no pattern has a word
-- that goes on with the letter.
pub record FindsTokens {S : Type 0} (ps : List Pattern) (k : PatternMarks ps) (p : Part S) : Type 0 where
  pub tokens : (w : List Letter) (s : S) → Leads p.auto w p.auto.start s → MakesToken ps k w (match_in p s)
  pub last : (w : List Letter) → IsMatch ps k w (last_match p w p.auto.start)
  pub stuck : (w : List Letter) (s : S) → Leads p.auto w p.auto.start s → (l : Letter) → p.auto.step s l ≡ None → (v : List Letter) → ¬ IsWordOfSome ps (w ++ l ∷ v)
