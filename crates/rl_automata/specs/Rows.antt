-- What some expressions do along some words. Actions and priorities are numbered; each label has the stamp that a walk
-- of the expression gives it.
use Rattle.std.specs.Prelude.{◌≡◌, ℕ, ◌+◌, false, List, [], ◌∷◌, pos, Option, Some, None}
use Rattle.rl_automata.specs.declared.tree.Label.{Label}
use Rattle.rl_automata.specs.declared.tree.Label.TheVariants.{Action, Prior}
use Rattle.rl_automata.specs.declared.moves.Move.{Move}
use Rattle.rl_types.specs.declared.numbers.Letter.{Letter}
use Rattle.rl_automata.specs.Auto.{Auto, on_part}
use Rattle.rl_automata.specs.Nodes as N
use Rattle.rl_automata.specs.Nodes.{Node}
use Rattle.rl_automata.specs.Marks.{Marks, auto, AreHonest}
use Rattle.rl_automata.specs.Scans.{Pattern, PatternMarks, scan_auto, token_list}
use Rattle.rl_automata.specs.Runs.{letters, lists, lists_of, unpruned}
use Rattle.rl_automata.specs.Sites.{Site, AtNode}
use Rattle.rl_automata.specs.Refused.{HasCycle, class_count}
use Rattle.rl_types.specs.declared.alphabet.Alphabet.TheVariants.{Char}

-- the characters from the one key to the other
abbrev pub keys : ℕ → ℕ → Node
keys lo hi = N.Set (record { lo = pos lo; hi = pos hi } ∷ [])

abbrev pub key : ℕ → Node
key k = keys k k

-- an action with its stamp
abbrev pub action : ℕ → ℕ → Label
action stamp number = Action stamp (record { 0 = number })

-- a priority under the one name, with its stamp
abbrev pub priority : ℕ → ℕ → Label
priority stamp value = Prior stamp 1 (pos value)

-- ---- embeddings

-- ('a' >A %B)* on aa: A, then B and A, and B at the end
abbrev pub LeavesBeforeEntering : Type 0
LeavesBeforeEntering = lists_of (N.Star (N.Leave (N.Enter (key 97) (action 1 1)) (action 2 2)) 3) (97 ∷ 97 ∷ []) ≡ (1 ∷ []) ∷ (2 ∷ 1 ∷ []) ∷ (2 ∷ []) ∷ []

-- ( 'a' $x | 'aa' $y )* on aa: x and y, and then y, which goes on, before the x of the new round
abbrev pub RoundsAreRestamped : Type 0
RoundsAreRestamped = lists_of (N.Star (N.Union (N.All (key 97) (action 1 1)) (N.All (N.Cat (key 97) (key 97)) (action 2 2))) 3) (97 ∷ 97 ∷ []) ≡ (1 ∷ 2 ∷ []) ∷ (2 ∷ 1 ∷ []) ∷ [] ∷ []

-- 'a' @F >E on a: E and F
abbrev pub EntersBeforeFinishing : Type 0
EntersBeforeFinishing = lists_of (N.Enter (N.Finish (key 97) (action 2 2)) (action 1 1)) (97 ∷ []) ≡ (1 ∷ 2 ∷ []) ∷ [] ∷ []

-- ( ( 'x' | 'xx' ) %A ) 'x' on xx: A as the left operand is left, and nothing at the end, where more would have to follow the left operand
abbrev pub LeavesAtTheEnd : Type 0
LeavesAtTheEnd = lists_of (N.Cat (N.Leave (N.Union (key 120) (N.Cat (key 120) (key 120))) (action 1 1)) (key 120)) (120 ∷ 120 ∷ []) ≡ [] ∷ (1 ∷ []) ∷ [] ∷ []

-- ('ab' $A) & 'ac', of which nothing can end
abbrev pub apart : Node
apart = N.And (N.All (N.Cat (key 97) (key 98)) (action 1 1)) (N.Cat (key 97) (key 99))

abbrev pub nothing_ends : Marks apart
nothing_ends = ((tt, tt), (tt, tt), λ c. false)

-- on a there is no step, with the test that tells the truth
abbrev pub IsPrunedBeforeIt : Type 0
IsPrunedBeforeIt = AreHonest apart nothing_ends × (lists (auto apart nothing_ends) (letters (97 ∷ [])) ≡ [])

-- ( 'ab' | 'ac' ) - ( 'ab' $Z ) on ac: Z, though it stands in the second operand, and the end is final
abbrev pub BothOperandsAct : Type 0
BothOperandsAct = lists_of (N.Minus (N.Union (N.Cat (key 97) (key 98)) (N.Cat (key 97) (key 99))) (N.All (N.Cat (key 97) (key 98)) (action 1 1))) (97 ∷ 99 ∷ []) ≡ (1 ∷ []) ∷ [] ∷ [] ∷ []

-- and on ab, which the second operand has, it is not
abbrev pub SecondOperandTakesAway : Type 0
SecondOperandTakesAway = lists_of (N.Minus (N.Union (N.Cat (key 97) (key 98)) (N.Cat (key 97) (key 99))) (N.All (N.Cat (key 97) (key 98)) (action 1 1))) (97 ∷ 98 ∷ []) ≡ (1 ∷ []) ∷ (1 ∷ []) ∷ []

-- ---- priorities

-- [a-z]+ >A
abbrev pub word : Node
word = N.Enter (N.Cat (keys 97 122) (N.Star (keys 97 122) 2)) (action 1 1)

-- a** is ( a $1 %0 )*, with a name of its own
abbrev pub longest : Node → ℕ → Node
longest a n = N.Star (N.Leave (N.All a (priority n 1)) (priority (n + 1) 0)) (n + 2)

-- ( [a-z]+ >A )** on ab: A once
abbrev pub StaysInTheLongerMatch : Type 0
StaysInTheLongerMatch = lists_of (longest word 3) (97 ∷ 98 ∷ []) ≡ (1 ∷ []) ∷ [] ∷ [] ∷ []

-- ( [a-z]+ >A )* on ab: A twice
abbrev pub BeginsEachRound : Type 0
BeginsEachRound = lists_of (N.Star word 3) (97 ∷ 98 ∷ []) ≡ (1 ∷ []) ∷ (1 ∷ []) ∷ [] ∷ []

-- ( 'a' >A )** 'a' @B on aa: A and B, twice
abbrev pub LeavesWithEqualPriorities : Type 0
LeavesWithEqualPriorities = lists_of (N.Cat (longest (N.Enter (key 97) (action 1 1)) 2) (N.Finish (key 97) (action 5 2))) (97 ∷ 97 ∷ []) ≡ (1 ∷ 2 ∷ []) ∷ (1 ∷ 2 ∷ []) ∷ [] ∷ []

-- 'a' $X $value | 'a' $Y $0
abbrev pub either : ℕ → Node
either value = N.Union (N.All (N.All (key 97) (action 1 1)) (priority 2 value)) (N.All (N.All (key 97) (action 3 2)) (priority 4 0))

-- with 1, on a: X alone
abbrev pub HigherPriorityWins : Type 0
HigherPriorityWins = lists_of (either 1) (97 ∷ []) ≡ (1 ∷ []) ∷ [] ∷ []

-- with 0, on a: X and Y
abbrev pub EqualPrioritiesJoin : Type 0
EqualPrioritiesJoin = lists_of (either 0) (97 ∷ []) ≡ (1 ∷ 2 ∷ []) ∷ [] ∷ []

-- ---- scanners

-- 'if' => 1; [f-i]+ => 2;
abbrev pub words : List Pattern
words = record { tree = N.Cat (key 105) (key 102); token = Some 1 } ∷ record { tree = N.Cat (keys 102 105) (N.Star (keys 102 105) 1); token = Some 2 } ∷ []

abbrev pub word_tests : PatternMarks words
word_tests = ((tt, tt), ((tt, tt), tt))

abbrev pub target : {S : Type 0} → Option (Move S) → Option S
target None = None
target (Some m) = Some m.to

-- where the word leads
abbrev pub along : {S : Type 0} → Auto S → List Letter → Option S → Option S
along A [] c = c
along A (l ∷ w) c = along A w (on_part None (λ s. target (A.step s l)) c)

-- the token list at the end of the word
abbrev pub token_after : List ℕ → Option (List ℕ)
token_after text = on_part None (token_list words word_tests) (along (scan_auto words word_tests) (letters text) (Some (scan_auto words word_tests).start))

-- if matches both, and the first pattern gives the token
abbrev pub FirstListedToken : Type 0
FirstListedToken = token_after (105 ∷ 102 ∷ []) ≡ Some (1 ∷ [])

-- ifg matches the second alone
abbrev pub LongestToken : Type 0
LongestToken = token_after (105 ∷ 102 ∷ 103 ∷ []) ≡ Some (2 ∷ [])

-- ---- refused nodes

-- an a with priorities under two names
abbrev pub ranked : ℕ → ℕ → ℕ → ℕ → ℕ → ℕ → Node
ranked stamp name value more other less = N.All (N.All (key 97) (Prior stamp name (pos value))) (Prior more other (pos less))

abbrev pub optional : Node
optional = N.Union (key 107) N.Null

-- 'a' $(p,1) $(r,0) | 'k' . 'a' $(p,0) $(q,1) | 'kk' . 'a' $(q,0) $(r,1), with p, q and r as the names 1, 2 and 3
abbrev pub ring : Node
ring = N.Union (N.Union (ranked 1 1 1 2 3 0) (N.Cat (key 107) (ranked 3 1 0 4 2 1))) (N.Cat (N.Cat (key 107) (key 107)) (ranked 5 2 0 6 3 1))

-- 'k'{0,2} followed by the ring: after kk each of the three steps on a is beaten by another
abbrev pub circled : Site
circled = AtNode (N.Cat (N.Cat optional optional) ring) (unpruned (N.Cat optional optional), unpruned ring)

abbrev pub ThreeBeatEachOther : Type 0
ThreeBeatEachOther = HasCycle circled

-- [a-z] and [a]: neither, one of them, both
abbrev pub ThreeKeyClasses : Type 0
ThreeKeyClasses = class_count Char ((record { lo = pos 97; hi = pos 122 } ∷ []) ∷ (record { lo = pos 97; hi = pos 97 } ∷ []) ∷ []) ≡ 3
