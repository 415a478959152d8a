-- Small sources with scanners, intersections or differences, and what replays of them write.
use Rattle.std.specs.Prelude.{pos, [], ◌∷◌, Some, codes}
use Rattle.rl_automata.specs.Nodes as N
use Rattle.rl_model.specs.Specification.{Specification, Plain, Scanner}
use Rattle.rl_model.specs.Sources.{between, two, act, main}
use Rattle.rl_model.specs.OperatorRows.{both}
use Rattle.rl_model.specs.ControlRows.{numbers}
use Rattle.rl_model.specs.ScannerRows.{lookahead, words}
use Rattle.rl_rows.specs.Replays.{Writes, WritesWith, on}

-- ---- an intersection and a difference

-- ('ab' $A) & 'ac'
abbrev pub DeadPathsGo : Type 0
DeadPathsGo = Writes both (on (codes "a")) (codes "s stop error 0\ns end error 0\n")

-- ( 'ab' | 'ac' ) - ( 'ab' $Z )
abbrev pub without : Specification
without = main ((codes "Z", 1) ∷ []) (Plain (N.Minus (N.Union (two 97 98) (two 97 99)) (N.All (two 97 98) (act 1 ([], 1)))))

abbrev pub SecondOperandActs : Type 0
SecondOperandActs = Writes without (on (codes "ac")) (codes "s do Z 0\ns end final 2\n")

abbrev pub SecondOperandIsOut : Type 0
SecondOperandIsOut = Writes without (on (codes "ab")) (codes "s do Z 0\ns stop error 1\ns end error 1\n")

-- ---- an entry that is called

-- action enter { fcall num; } action done { fhold; fret; }
-- num := ([0-9]+ %done) (any - [0-9])?; main := ('n' @enter | 'x')*;
abbrev pub ReturnsToCaller : Type 0
ReturnsToCaller = Writes numbers (codes "open s\npiece s \"n12\"\npiece s \"x\"\nend s\n") (codes "s do enter 0 call num\ns do done 3 hold ret\ns end final 4\n")

abbrev pub ReturnsAtEnd : Type 0
ReturnsAtEnd = Writes numbers (on (codes "n12")) (codes "s do enter 0 call num\ns eof done 3 hold ret\ns end final 3\n")

-- ---- scanners

-- |* 'a' => A; 'aab' => B; *|
abbrev pub BacksUp : Type 0
BacksUp = Writes lookahead (on (codes "aaac")) (codes "s token A 2 0 1\ns token A 3 1 2\ns token A 3 2 3\ns stop error 3\ns end error 3\n")

-- however the input is cut
abbrev pub PiecesAddUp : Type 0
PiecesAddUp = Writes lookahead (codes "open s\npiece s \"a\"\npiece s \"a\"\npiece s \"a\"\npiece s \"c\"\nend s\n")
    (codes "s token A 2 0 1\ns token A 3 1 2\ns token A 3 2 3\ns stop error 3\ns end error 3\n")

-- two sessions, each with an input of its own
abbrev pub SessionsTakeTurns : Type 0
SessionsTakeTurns = Writes lookahead (codes "open s\nopen t\npiece s \"a\"\npiece t \"aaa\"\npiece s \"aac\"\npiece t \"c\"\nend t\nend s\n")
    (codes "t token A 2 0 1\ns token A 2 0 1\ns token A 3 1 2\ns token A 3 2 3\ns stop error 3\nt token A 3 1 2\nt token A 3 2 3\nt stop error 3\nt end error 3\ns end error 3\n")

-- |* 'if' => kw; [a-z]+ => id; ' '; *|
abbrev pub KeywordThenWord : Type 0
KeywordThenWord = Writes words (on (codes "if ifx")) (codes "s token kw 2 0 2\ns token id 6 3 6\ns end final 6\n")

-- |* [a-z]+ => w; *|
abbrev pub letters : Specification
letters = main ((codes "w", 1) ∷ []) (Scanner (record { tree = let letter = between (pos 97) (pos 122) in N.Cat letter (N.Star letter 1); token = Some 1 } ∷ []))

-- where tokens have three characters at most
abbrev pub TokenIsTooLong : Type 0
TokenIsTooLong = WritesWith (record { stack = 64; look = 8; token_max = 3 }) letters (on (codes "abcd")) (codes "s stop overlong 3\ns end error 3\n")
