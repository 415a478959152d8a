-- Worked examples, computed.
use Rattle.std.proofs.Common.{◌≡◌, [], ◌∷◌, refl, pos, Some, None}
use Rattle.rl_types.specs.declared.alphabet.Alphabet.TheVariants.{Char}
use Rattle.rl_types.specs.declared.numbers.Place.{Place}
use Rattle.rl_types.specs.declared.numbers.ActionId.{ActionId}
use Rattle.rl_automata.specs.declared.tree.Label.TheVariants.{Action, Prior}
use Rattle.rl_automata.specs.declared.tree.Class.TheVariants.{Start, Final}
use Rattle.rl_automata.specs.declared.tree.Kind.TheVariants.{To}
use Rattle.rl_automata.specs.Nodes as n
use Rattle.rl_automata.specs.Nodes.{Node}
use Rattle.rl_draft.specs.declared.expression.Put.TheVariants as put
use Rattle.rl_draft.specs.declared.expression.Transitions.TheVariants as t
use Rattle.rl_draft.specs.declared.expression.Join.TheVariants as join
use Rattle.rl_draft.specs.declared.expression.Negation.TheVariants as negation
use Rattle.rl_rewrite.specs.Plain as p
use Rattle.rl_rewrite.specs.Plain.{Plain, any, joined, all_negated}
use Rattle.rl_rewrite.specs.Walk.{walk, begun}
use Rattle.rl_rewrite.specs.Sizes.{nodes, depth}

abbrev at : Place
at = record { file = 0; line = 1; col = 1 }

abbrev second : Place
second = record { file = 0; line = 1; col = 2 }

abbrev later : Place
later = record { file = 0; line = 1; col = 7 }

abbrev a : ActionId
a = record { 0 = 1 }

abbrev b : ActionId
b = record { 0 = 2 }

abbrev c : ActionId
c = record { 0 = 3 }

abbrev small : Node
small = n.Set (record { lo = pos 97; hi = pos 122 } ∷ [])

abbrev letter : Plain
letter = p.Set (record { lo = pos 97; hi = pos 122 } ∷ []) at

abbrev other : Plain
other = p.Set (record { lo = pos 97; hi = pos 122 } ∷ []) later

abbrev rewritten : Plain → Node
rewritten q = (walk q (begun [])).0.node

-- ([a-z] >A %B)*: the entering one first, and the base last
entering_first : rewritten (p.Count (p.Series letter (put.Action t.Entering a ∷ put.Action t.Leaving b ∷ []) at) 0 None at)
    ≡ n.Star (n.Leave (n.Enter small (Action 1 a)) (Action 2 b)) 3
entering_first = refl

-- ( [a-z]+ >A )**
longest : rewritten (p.Longest (p.Series (p.Count letter 1 None at) (put.Action t.Entering a ∷ []) at) at)
    ≡ n.Star (n.Leave (n.All (n.Enter (n.Cat small (n.Star small 2)) (Action 1 a)) (Prior 3 1 (pos 1))) (Prior 4 1 (pos 0))) 5
longest = refl

-- ( [a-z] %B $(7,1) >A >(8,2) )+ $(7,0): entering ones first, copies share, and names are numbered by their first use
shared : rewritten (p.Series (p.Count (p.Series letter (put.Action t.Leaving b ∷ put.Priority t.All 7 (pos 1) ∷ put.Action t.Entering a ∷ put.Priority t.Entering 8 (pos 2) ∷ []) at) 1 None at)
    (put.Priority t.All 7 (pos 0) ∷ []) at)
    ≡ (let x = n.Enter (n.Enter (n.All (n.Leave small (Action 3 b)) (Prior 4 2 (pos 1))) (Action 1 a)) (Prior 2 1 (pos 2)) in
    n.All (n.Cat x (n.Star x 5)) (Prior 6 2 (pos 0)))
shared = refl

-- [a-z]** [a-z]**: each has a name of its own
two_names : rewritten (p.Pair p.Then (p.Longest letter at) (p.Longest other later) at)
    ≡ n.Cat (n.Star (n.Leave (n.All small (Prior 1 1 (pos 1))) (Prior 2 1 (pos 0))) 3) (n.Star (n.Leave (n.All small (Prior 4 2 (pos 1))) (Prior 5 2 (pos 0))) 6)
two_names = refl

-- [a-z] :> ([a-z] >A): the guard enters before what is embedded in its operand
guarded : rewritten (joined Char join.EntryGuarded letter (p.Series other (put.Action t.Entering a ∷ []) later) at)
    ≡ n.Cat (n.All small (Prior 1 1 (pos 0))) (n.Enter (n.Enter small (Action 3 a)) (Prior 2 1 (pos 1)))
guarded = refl

-- [a-z] :>> ([a-z] >A): it finishes behind it
finished : rewritten (joined Char join.FinishGuarded letter (p.Series other (put.Action t.Entering a ∷ []) later) at)
    ≡ n.Cat (n.All small (Prior 1 1 (pos 0))) (n.Finish (n.Enter small (Action 2 a)) (Prior 3 1 (pos 1)))
finished = refl

-- [a-z]+ <: ([a-z] >A): the base, the left priority, the right one, and then what enters the right operand
left_guarded : rewritten (joined Char join.LeftGuarded (p.Count letter 1 None at) (p.Series other (put.Action t.Entering a ∷ []) later) at)
    ≡ n.Cat (n.All (n.Cat small (n.Star small 1)) (Prior 2 1 (pos 1))) (n.Enter (n.Enter small (Action 4 a)) (Prior 3 1 (pos 0)))
left_guarded = refl

-- [a-z] $(5,3) <: ([a-z] $(5,1)): the guard's name is numbered where it is first used
named_guard : rewritten (joined Char join.LeftGuarded (p.Series letter (put.Priority t.All 5 (pos 3) ∷ []) at) (p.Series other (put.Priority t.All 5 (pos 1) ∷ []) later) at)
    ≡ n.Cat (n.All (n.All small (Prior 1 1 (pos 3))) (Prior 2 2 (pos 1))) (n.Enter (n.All small (Prior 4 1 (pos 1))) (Prior 3 2 (pos 0)))
named_guard = refl

-- any* :>> ([a-z] [a-z] @A), with the place of each node
comment : walk (joined Char join.FinishGuarded (p.every Char at) (p.Series (p.Pair p.Then other other later) (put.Action t.Finishing a ∷ []) later) at) (begun [])
    ≡ (
      record {
        node = n.Cat (n.All (n.Star (n.Set (any Char)) 1) (Prior 2 1 (pos 0))) (n.Finish (n.Finish (n.Cat small small) (Action 3 a)) (Prior 4 1 (pos 1)));
        places = at ∷ at ∷ at ∷ later ∷ later ∷ later ∷ later ∷ at ∷ at ∷ [];
      },
      record { stamp = 4; names = None ∷ []; conditions = [] },
    )
comment = refl

-- [a-z] $A $1 | [a-z] $B $0, whose numbers have one name
plain_numbers : rewritten (p.Pair p.Either (p.Series letter (put.Action t.All a ∷ put.Priority t.All 4 (pos 1) ∷ []) at) (p.Series other (put.Action t.All b ∷ put.Priority t.All 4 (pos 0) ∷ []) later) at)
    ≡ n.Union (n.All (n.All small (Action 1 a)) (Prior 2 1 (pos 1))) (n.All (n.All small (Action 3 b)) (Prior 4 1 (pos 0)))
plain_numbers = refl

-- [a-z] -- [a-z], with the place of each node
without : walk (joined Char join.StrongDifference letter other at) (begun [])
    ≡ (
      record {
        node = n.Minus small (n.Cat (n.Cat (n.Star (n.Set (any Char)) 1) small) (n.Star (n.Set (any Char)) 2));
        places = at ∷ at ∷ at ∷ later ∷ at ∷ at ∷ at ∷ at ∷ at ∷ [];
      },
      record { stamp = 2; names = []; conditions = [] },
    )
without = refl

-- !^[a-z], with the place of each node: what a negation makes stands at its own sign
negated : walk (all_negated Char (record { negation = negation.Language; place = at } ∷ record { negation = negation.Character; place = second } ∷ []) other) (begun [])
    ≡ (
      record {
        node = n.Minus (n.Star (n.Set (any Char)) 1) (n.Minus (n.Set (any Char)) small);
        places = at ∷ at ∷ second ∷ later ∷ second ∷ at ∷ [];
      },
      record { stamp = 1; names = []; conditions = [] },
    )
negated = refl

-- [a-z] when A %~C >~B when B when A: conditions by their first `when`, and the start's mark first
conditions : walk (p.Series letter (put.When a ∷ put.Mark Final To c ∷ put.Mark Start To b ∷ put.When b ∷ put.When a ∷ []) at) (begun [])
    ≡ (
      record { node = n.When (n.When (n.Mark (n.Mark (n.When small 1) Final To 2 3) Start To 1 2) 2) 1; places = at ∷ at ∷ at ∷ at ∷ at ∷ at ∷ [] },
      record { stamp = 2; names = []; conditions = a ∷ b ∷ [] },
    )
conditions = refl

-- ([a-z] >A when B){0}: nothing is walked
none : walk (p.Count (p.Series letter (put.Action t.Entering a ∷ put.When b ∷ []) at) 0 (Some 0) at) (begun [])
    ≡ (record { node = n.Null; places = at ∷ [] }, begun [])
none = refl

-- [a-z]{1,3}: a copy, and two that may be left out
few : rewritten (p.Count letter 1 (Some 3) at) ≡ n.Cat (n.Cat small (n.Union small n.Null)) (n.Union small n.Null)
few = refl

-- [a-z]{4000000}
many : nodes (p.Count letter 4000000 (Some 4000000) at) ≡ 7999999
many = refl

many_deep : depth (p.Count letter 4000000 (Some 4000000) at) ≡ 4000000
many_deep = refl
