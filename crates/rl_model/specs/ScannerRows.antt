-- Runs of small sources: scanners.
use Rattle.std.specs.Prelude.{pos, [], ◌∷◌, Some, None, codes}
use Rattle.rl_run.specs.declared.calls.Stop.TheVariants.{ErrorState}
use Rattle.rl_automata.specs.Nodes as N
use Rattle.rl_automata.specs.Nodes.{Node}
use Rattle.rl_model.specs.Specification.{Specification, Scanner}
use Rattle.rl_model.specs.Sources.{Named, between, one, two, main, token, last_token, ends_final, stops, Runs}

-- ---- the longest match

abbrev pub a : Named
a = (codes "A", 1)

abbrev pub b : Named
b = (codes "B", 2)

-- |* 'a' => A; 'aab' => B; *|
abbrev pub lookahead : Specification
lookahead = main (a ∷ b ∷ []) (Scanner (record { tree = one 97; token = Some 1 } ∷ record { tree = N.Cat (two 97 97) (one 98); token = Some 2 } ∷ []))

-- on aaac: each time the longest match is one character, and what was read behind it is read again
abbrev pub BacksUp : Type 0
BacksUp = Runs lookahead (codes "aaac") (token a 2 97 0 1 ∷ token a 3 99 1 2 ∷ token a 3 99 2 3 ∷ []) (stops ErrorState 3)

-- |* 'a' => A; *|
abbrev pub single : Specification
single = main (a ∷ []) (Scanner (record { tree = one 97; token = Some 1 } ∷ []))

-- on aa: a match that nothing can lengthen is a token at its last character, and not only at the next one
abbrev pub TokenAtOnce : Type 0
TokenAtOnce = Runs single (codes "aa") (token a 0 97 0 1 ∷ token a 1 97 1 2 ∷ []) (ends_final 2)

-- ---- of equal matches the first

abbrev pub kw : Named
kw = (codes "kw", 1)

abbrev pub id : Named
id = (codes "id", 2)

abbrev pub lower : Node
lower = between (pos 97) (pos 122)

-- |* 'if' => kw; [a-z]+ => id; ' '; *|
abbrev pub words : Specification
words = main (kw ∷ id ∷ [])
    (Scanner (record { tree = two 105 102; token = Some 1 } ∷ record { tree = N.Cat lower (N.Star lower 1); token = Some 2 } ∷ record { tree = one 32; token = None } ∷ []))

-- on `if ifx`: a keyword, and a longer word; the blank, which nothing can lengthen, is a token without an action
abbrev pub KeywordThenWord : Type 0
KeywordThenWord = Runs words (codes "if ifx") (token kw 2 32 0 2 ∷ last_token id 6 3 6 ∷ []) (ends_final 6)
