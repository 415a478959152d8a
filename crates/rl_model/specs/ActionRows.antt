-- Runs of small sources: the order of actions, state embeddings and priorities.
use Rattle.std.specs.Prelude.{ℕ, pos, [], ◌∷◌, codes}
use Rattle.rl_run.specs.declared.calls.Stop.TheVariants.{ErrorState}
use Rattle.rl_automata.specs.declared.tree.Label.TheVariants.{Prior}
use Rattle.rl_automata.specs.declared.tree.Class.TheVariants as C
use Rattle.rl_automata.specs.declared.tree.Kind.TheVariants as M
use Rattle.rl_automata.specs.Nodes as N
use Rattle.rl_automata.specs.Nodes.{Node}
use Rattle.rl_model.specs.Specification.{Specification, Plain}
use Rattle.rl_model.specs.Sources.{Named, between, one, any, two, act, main, does, from, to, errs, at_end, ends_final, ends_partial, stops, Runs}

abbrev pub a : Named
a = (codes "A", 1)

abbrev pub b : Named
b = (codes "B", 2)

-- ---- entering, leaving, finishing

-- ('a' >A %B)* on aa: between two rounds the leaving action runs before the entering one; at the end it runs alone
abbrev pub wrap : Specification
wrap = main (a ∷ b ∷ []) (Plain (N.Star (N.Leave (N.Enter (one 97) (act 1 a)) (act 2 b)) 3))

abbrev pub LeavesBeforeEntering : Type 0
LeavesBeforeEntering = Runs wrap (codes "aa") (does a 0 97 ∷ does b 1 97 ∷ does a 1 97 ∷ at_end b 2 ∷ []) (ends_final 2)

-- ('' >A) . 'b' >B on b: what enters the empty word leaves it at once
abbrev pub empty_first : Specification
empty_first = main (a ∷ b ∷ []) (Plain (N.Cat (N.Enter N.Null (act 1 a)) (N.Enter (one 98) (act 2 b))))

abbrev pub EmptyWordIsLeft : Type 0
EmptyWordIsLeft = Runs empty_first (codes "b") (does a 0 98 ∷ does b 0 98 ∷ []) (ends_final 1)

-- ('a' $A | 'aa' $B)* on aa: the actions of a new round run after those of the round that goes on
abbrev pub rounds : Specification
rounds = main (a ∷ b ∷ []) (Plain (N.Star (N.Union (N.All (one 97) (act 1 a)) (N.All (two 97 97) (act 2 b))) 3))

abbrev pub NewRoundLast : Type 0
NewRoundLast = Runs rounds (codes "aa") (does a 0 97 ∷ does b 0 97 ∷ does b 1 97 ∷ does a 1 97 ∷ []) (ends_final 2)

-- ('a' @A >B) on a: the entering action is first although it is written last
abbrev pub entering_last : Specification
entering_last = main (a ∷ b ∷ []) (Plain (N.Enter (N.Finish (one 97) (act 2 a)) (act 1 b)))

abbrev pub EntersFirst : Type 0
EntersFirst = Runs entering_last (codes "a") (does b 0 97 ∷ does a 0 97 ∷ []) (ends_final 1)

-- any* :>> '*/' @A: the guard's last character ends the first operand
abbrev pub guarded : Specification
guarded = main (a ∷ [])
    (Plain (N.Cat (N.All (N.Star any 1) (Prior 2 1 (pos 0))) (N.Finish (N.Finish (two 42 47) (act 3 a)) (Prior 4 1 (pos 1)))))

abbrev pub GuardEnds : Type 0
GuardEnds = Runs guarded (codes "x*/") (does a 2 47 ∷ []) (ends_final 3)

-- so nothing follows it
abbrev pub GuardIsLast : Type 0
GuardIsLast = Runs guarded (codes "x*/y") (does a 2 47 ∷ []) (stops ErrorState 3)

-- ---- state embeddings

-- 'ab' $~A $*B on abx: the from-state action runs before the character, also without a step; the to-state action behind it
abbrev pub watched : Specification
watched = main (a ∷ b ∷ []) (Plain (N.Mark (N.Mark (two 97 98) C.All M.To 1 1) C.All M.From 2 2))

abbrev pub FromAndTo : Type 0
FromAndTo = Runs watched (codes "abx") (from b 0 97 ∷ to a 0 97 ∷ from b 1 98 ∷ to a 1 98 ∷ from b 2 120 ∷ []) (stops ErrorState 2)

-- 'ab' $!A on ac: the error action runs where there is no step
abbrev pub cautious : Specification
cautious = main (a ∷ []) (Plain (N.Mark (two 97 98) C.All M.Error 1 1))

abbrev pub ErrorActionRuns : Type 0
ErrorActionRuns = Runs cautious (codes "ac") (errs a 1 99 ∷ []) (stops ErrorState 1)

-- and on a at the end of the input, in a state that is not final
abbrev pub ErrorActionAtEnd : Type 0
ErrorActionAtEnd = Runs cautious (codes "a") (at_end a 1 ∷ []) (ends_partial 1)

-- but not on ab, where the state is final
abbrev pub NoErrorActionAtFinal : Type 0
NoErrorActionAtFinal = Runs cautious (codes "ab") [] (ends_final 2)

-- ---- priorities

-- 'a' $A $p | 'a' $B $q, with priorities p and q under one name
abbrev pub either : ℕ → ℕ → Specification
either p q = main (a ∷ b ∷ [])
    (Plain (N.Union (N.All (N.All (one 97) (act 1 a)) (Prior 2 1 (pos p))) (N.All (N.All (one 97) (act 3 b)) (Prior 4 1 (pos q)))))

-- on a, with 1 and 0: only the higher one stays
abbrev pub HigherStays : Type 0
HigherStays = Runs (either 1 0) (codes "a") (does a 0 97 ∷ []) (ends_final 1)

-- with 0 twice: both are joined
abbrev pub EqualAreJoined : Type 0
EqualAreJoined = Runs (either 0 0) (codes "a") (does a 0 97 ∷ does b 0 97 ∷ []) (ends_final 1)

-- ([a-z]+ >A), and a longest match or a plain repetition of it
abbrev word : Node
word = let letter = between (pos 97) (pos 122) in N.Enter (N.Cat letter (N.Star letter 2)) (act 1 a)

-- ([a-z]+ >A)** on ab: going on is preferred to a new round, so there is one
abbrev pub longest : Specification
longest = main (a ∷ []) (Plain (N.Star (N.Leave (N.All word (Prior 3 1 (pos 1))) (Prior 4 1 (pos 0))) 5))

abbrev pub LongestGoesOn : Type 0
LongestGoesOn = Runs longest (codes "ab") (does a 0 97 ∷ []) (ends_final 2)

-- ([a-z]+ >A)* on ab: each character may begin a round
abbrev pub shortest : Specification
shortest = main (a ∷ []) (Plain (N.Star word 3))

abbrev pub EachBegins : Type 0
EachBegins = Runs shortest (codes "ab") (does a 0 97 ∷ does a 1 98 ∷ []) (ends_final 2)

-- ('a' >A)** 'a' @B on aa: the repetition does not take the last character from what follows it
abbrev pub longest_then : Specification
longest_then = main (a ∷ b ∷ [])
    (Plain (N.Cat (N.Star (N.Leave (N.All (N.Enter (one 97) (act 1 a)) (Prior 2 1 (pos 1))) (Prior 3 1 (pos 0))) 4) (N.Finish (one 97) (act 5 b))))

abbrev pub BothGoOn : Type 0
BothGoOn = Runs longest_then (codes "aa") (does a 0 97 ∷ does b 0 97 ∷ does a 1 97 ∷ does b 1 97 ∷ []) (ends_final 2)
