-- Runs of small sources: intersection, difference and conditions.
use Rattle.std.specs.Prelude.{[], ◌∷◌, codes}
use Rattle.rl_run.specs.declared.calls.Answer.TheVariants.{Yes, No}
use Rattle.rl_run.specs.declared.calls.Stop.TheVariants.{ErrorState}
use Rattle.rl_automata.specs.Nodes as N
use Rattle.rl_model.specs.Specification.{Specification, Plain}
use Rattle.rl_model.specs.Sources.{Named, one, two, act, main, does, asks, ends_final, stops, with_stack, Run, Runs}

abbrev pub a : Named
a = (codes "A", 1)

abbrev pub b : Named
b = (codes "B", 2)

-- ---- paths that lead nowhere

-- ('ab' $A) & 'ac' on a: no word is in both, so the first character has no step, and A is not called
abbrev pub both : Specification
both = main (a ∷ []) (Plain (N.And (N.All (two 97 98) (act 1 a)) (two 97 99)))

abbrev pub DeadPathsGo : Type 0
DeadPathsGo = Runs both (codes "a") [] (stops ErrorState 0)

-- ('ab' | 'ac') - ('ab' $A) on ac: the actions of the second operand run too
abbrev pub without : Specification
without = main (a ∷ []) (Plain (N.Minus (N.Union (two 97 98) (two 97 99)) (N.All (two 97 98) (act 1 a))))

abbrev pub SecondOperandActs : Type 0
SecondOperandActs = Runs without (codes "ac") (does a 0 97 ∷ []) (ends_final 2)

-- and on ab the second character has no step
abbrev pub SecondOperandIsOut : Type 0
SecondOperandIsOut = Runs without (codes "ab") (does a 0 97 ∷ []) (stops ErrorState 1)

-- ---- conditions

-- (('a' $A) when c) | ('a' $B), where c is the first condition, and the third action
abbrev pub c : Named
c = (codes "c", 1)

abbrev pub asked : Specification
asked = record (main (a ∷ b ∷ c ∷ []) (Plain (N.Union (N.When (N.All (one 97) (act 1 a)) 1) (N.All (one 97) (act 2 b))))) { conditions = 3 ∷ [] }

-- on a: where c holds both actions run
abbrev pub HoldsAndRuns : Type 0
HoldsAndRuns = Run asked (with_stack 64) 1 (codes "a") (Yes ∷ Yes ∷ Yes ∷ []) (asks c 0 97 ∷ does a 0 97 ∷ does b 0 97 ∷ []) (ends_final 1)

-- else only the other one
abbrev pub FailsAndStays : Type 0
FailsAndStays = Run asked (with_stack 64) 1 (codes "a") (No ∷ Yes ∷ []) (asks c 0 97 ∷ does b 0 97 ∷ []) (ends_final 1)

-- nothing is asked for a character that has no transition with c
abbrev pub AskedOnlyThere : Type 0
AskedOnlyThere = Runs asked (codes "b") [] (stops ErrorState 0)
