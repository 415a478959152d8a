-- Small sources without scanners, intersections and differences, and what replays of them write.
use Rattle.std.specs.Prelude.{ℕ, ◌+◌, false, pos, negsuc, List, [], ◌∷◌, ◌++◌, codes}
use Rattle.rl_automata.specs.declared.tree.Label.{Label}
use Rattle.rl_automata.specs.declared.tree.Label.TheVariants.{Prior}
use Rattle.rl_automata.specs.declared.tree.Class.TheVariants as C
use Rattle.rl_automata.specs.declared.tree.Kind.TheVariants as M
use Rattle.rl_automata.specs.Nodes as N
use Rattle.rl_automata.specs.Nodes.{Node}
use Rattle.rl_types.specs.declared.alphabet.Alphabet.TheVariants.{Short}
use Rattle.rl_run.specs.declared.statements.Statement.{Statement}
use Rattle.rl_run.specs.declared.statements.StatementKind.TheVariants.{Exec}
use Rattle.rl_run.specs.declared.statements.GoalBase.TheVariants.{P}
use Rattle.rl_model.specs.Specification.{Specification, Plain}
use Rattle.rl_model.specs.Sources.{Named, between, one, any, two, act, main, with_statements, states, with_stack}
use Rattle.rl_model.specs.ControlRows.{nested, returning}
use Rattle.rl_rows.specs.Replays.{Writes, WritesWith, on}

-- a source with these actions
abbrev pub source : List Named → Node → Specification
source actions tree = main actions (Plain tree)

-- one action, and which one
abbrev pub alone : List ℕ → List Named
alone name = (name, 1) ∷ []

abbrev pub pair : List ℕ → List ℕ → List Named
pair first second = (first, 1) ∷ (second, 2) ∷ []

-- an embedding of the first action, of the second
abbrev pub first : ℕ → Label
first stamp = act stamp ([], 1)

abbrev pub second : ℕ → Label
second stamp = act stamp ([], 2)

-- a session that is opened and ended
abbrev pub nothing : List ℕ
nothing = codes "open s\nend s\n"

-- ---- what is accepted

abbrev pub EmptyWordIsFinal : Type 0
EmptyWordIsFinal = Writes (source [] N.Null) nothing (codes "s end final 0\n")

abbrev pub CharacterIsDue : Type 0
CharacterIsDue = Writes (source [] (one 97)) nothing (codes "s end partial 0\n")

abbrev pub NoWordIsFinal : Type 0
NoWordIsFinal = Writes (source [] N.Nothing) nothing (codes "s end partial 0\n")

-- ---- actions on steps

-- 'ab' $x
abbrev pub literal : Specification
literal = source (alone (codes "x")) (N.All (two 97 98) (first 1))

abbrev pub EachCharacter : Type 0
EachCharacter = Writes literal (on (codes "ab")) (codes "s do x 0\ns do x 1\ns end final 2\n")

-- behind a stop a piece writes nothing
abbrev pub StopStays : Type 0
StopStays = Writes literal (codes "open s\npiece s \"ac\"\npiece s \"ab\"\nend s\n") (codes "s do x 0\ns stop error 1\ns end error 1\n")

-- ('a' >A %B)*
abbrev pub LeavesBeforeEntering : Type 0
LeavesBeforeEntering = Writes (source (pair (codes "A") (codes "B")) (N.Star (N.Leave (N.Enter (one 97) (first 1)) (second 2)) 3))
    (on (codes "aa")) (codes "s do A 0\ns do B 1\ns do A 1\ns eof B 2\ns end final 2\n")

-- [a-z]+ %act, with the stamp of its repetition and that of the embedding
abbrev pub word : ℕ → ℕ → Node
word base stamp = let letter = between (pos 97) (pos 122) in N.Leave (N.Cat letter (N.Star letter base)) (first stamp)

-- word = [a-z]+ %act; main := word ('\n' word)* '\n\n'; : two paths leave at each newline, and the action runs once
abbrev pub EachWordOnce : Type 0
EachWordOnce = Writes (source (alone (codes "act")) (N.Cat (N.Cat (word 1 2) (N.Star (N.Cat (one 10) (word 3 4)) 5)) (two 10 10)))
    (on (codes "ab\\ncd\\n\\n")) (codes "s do act 2\ns do act 5\ns end final 7\n")

-- ('' >A) . 'b' >C
abbrev pub EmptyWordIsLeft : Type 0
EmptyWordIsLeft = Writes (source (pair (codes "A") (codes "C")) (N.Cat (N.Enter N.Null (first 1)) (N.Enter (one 98) (second 2))))
    (on (codes "b")) (codes "s do A 0\ns do C 0\ns end final 1\n")

-- ( 'a' $x | 'aa' $y )*
abbrev pub NewRoundLast : Type 0
NewRoundLast = Writes (source (pair (codes "x") (codes "y")) (N.Star (N.Union (N.All (one 97) (first 1)) (N.All (two 97 97) (second 2))) 3))
    (on (codes "aa")) (codes "s do x 0\ns do y 0\ns do y 1\ns do x 1\ns end final 2\n")

-- ( 'a' @F >E )
abbrev pub EntersFirst : Type 0
EntersFirst = Writes (source (pair (codes "F") (codes "E")) (N.Enter (N.Finish (one 97) (first 2)) (second 1)))
    (on (codes "a")) (codes "s do E 0\ns do F 0\ns end final 1\n")

-- any* :>> '*/' @fin
abbrev pub guarded : Specification
guarded = source (alone (codes "fin"))
    (N.Cat (N.All (N.Star any 1) (Prior 2 1 (pos 0))) (N.Finish (N.Finish (two 42 47) (first 3)) (Prior 4 1 (pos 1))))

abbrev pub GuardEnds : Type 0
GuardEnds = Writes guarded (on (codes "x*/")) (codes "s do fin 2\ns end final 3\n")

abbrev pub GuardIsLast : Type 0
GuardIsLast = Writes guarded (on (codes "x*/y")) (codes "s do fin 2\ns stop error 3\ns end error 3\n")

-- ---- state embeddings

-- 'ab' $~t $*f
abbrev pub FromAndTo : Type 0
FromAndTo = Writes (source (pair (codes "t") (codes "f")) (N.Mark (N.Mark (two 97 98) C.All M.To 1 1) C.All M.From 2 2))
    (on (codes "abx")) (codes "s from f 0\ns to t 0\ns from f 1\ns to t 1\ns from f 2\ns stop error 2\ns end error 2\n")

-- 'ab' $!oops
abbrev pub cautious : Specification
cautious = source (alone (codes "oops")) (N.Mark (two 97 98) C.All M.Error 1 1)

abbrev pub ErrorActionRuns : Type 0
ErrorActionRuns = Writes cautious (on (codes "ac")) (codes "s error oops 1\ns stop error 1\ns end error 1\n")

abbrev pub ErrorActionAtEnd : Type 0
ErrorActionAtEnd = Writes cautious (on (codes "a")) (codes "s eof oops 1\ns end partial 1\n")

-- ---- priorities

-- 'a' $X $p | 'a' $Y $0
abbrev pub either : ℕ → Specification
either p = source (pair (codes "X") (codes "Y"))
    (N.Union (N.All (N.All (one 97) (first 1)) (Prior 2 1 (pos p))) (N.All (N.All (one 97) (second 3)) (Prior 4 1 (pos 0))))

abbrev pub HigherStays : Type 0
HigherStays = Writes (either 1) (on (codes "a")) (codes "s do X 0\ns end final 1\n")

abbrev pub EqualAreJoined : Type 0
EqualAreJoined = Writes (either 0) (on (codes "a")) (codes "s do X 0\ns do Y 0\ns end final 1\n")

-- [a-z]+ >A
abbrev pub letters : Node
letters = let letter = between (pos 97) (pos 122) in N.Enter (N.Cat letter (N.Star letter 2)) (first 1)

-- a longest repetition, stamped from n on
abbrev pub longest : Node → ℕ → Node
longest tree n = N.Star (N.Leave (N.All tree (Prior n 1 (pos 1))) (Prior (n + 1) 1 (pos 0))) (n + 2)

-- ( [a-z]+ >A )**
abbrev pub LongestGoesOn : Type 0
LongestGoesOn = Writes (source (alone (codes "A")) (longest letters 3)) (on (codes "ab")) (codes "s do A 0\ns end final 2\n")

-- ( [a-z]+ >A )*
abbrev pub EachBegins : Type 0
EachBegins = Writes (source (alone (codes "A")) (N.Star letters 3)) (on (codes "ab")) (codes "s do A 0\ns do A 1\ns end final 2\n")

-- ( 'a' >A )** 'a' @B
abbrev pub BothGoOn : Type 0
BothGoOn = Writes (source (pair (codes "A") (codes "B")) (N.Cat (longest (N.Enter (one 97) (first 1)) 2) (N.Finish (one 97) (second 5))))
    (on (codes "aa")) (codes "s do A 0\ns do B 0\ns do A 1\ns do B 1\ns end final 2\n")

-- ---- wide characters

-- 'ab' $x over characters of two bytes
abbrev pub wide : Specification
wide = record literal { alphabet = Short }

abbrev pub TwoBytesEach : Type 0
TwoBytesEach = Writes wide (on (codes "a\\x00b\\x00")) (codes "s do x 0\ns do x 1\ns end final 2\n")

-- a piece may end within a character
abbrev pub CutWithin : Type 0
CutWithin = Writes wide
    (codes "open s\npiece s \"a\"\npiece s \"\\x00b\"\npiece s \"\\x00\"\nend s\n") (codes "s do x 0\ns do x 1\ns end final 2\n")

-- and the input may not
abbrev pub HalfAtEnd : Type 0
HalfAtEnd = Writes wide (on (codes "a\\x00b")) (codes "s do x 0\ns stop half-key 1\ns end error 1\n")

-- -1 $x
abbrev pub UpperHalfBelowZero : Type 0
UpperHalfBelowZero = Writes (record (source (alone (codes "x")) (N.All (between (negsuc 0) (negsuc 0)) (first 1))) { alphabet = Short })
    (on (codes "\\xff\\xff\\xff\\x00")) (codes "s do x 0\ns stop error 1\ns end error 1\n")

-- ---- conditions

-- (('a' $X) when c) | ('a' $Y)
abbrev pub conditional : Specification
conditional = record (source ((codes "X", 1) ∷ (codes "Y", 2) ∷ (codes "c", 3) ∷ []) (N.Union (N.When (N.All (one 97) (first 1)) 1) (N.All (one 97) (second 2)))) { conditions = 3 ∷ [] }

abbrev pub SaidYes : Type 0
SaidYes = Writes conditional (on (codes "a") ++ codes "say s c 1 yes\n") (codes "s ask c 0 yes\ns do X 0\ns do Y 0\ns end final 1\n")

abbrev pub NotSaid : Type 0
NotSaid = Writes conditional (on (codes "a")) (codes "s ask c 0 no\ns do Y 0\ns end final 1\n")

-- ---- control statements

-- action deep { fcall main; } main := 'c' @deep; with room for two
abbrev pub NoRoomToPush : Type 0
NoRoomToPush = WritesWith (with_stack 2) nested (on (codes "ccc"))
    (codes "s do deep 0 call main\ns do deep 1 call main\ns do deep 2 call main\ns stop stack-full 3\ns end error 3\n")

-- action back { fret; } main := 'r' @back;
abbrev pub NothingToPop : Type 0
NothingToPop = Writes returning (on (codes "r")) (codes "s do back 0 ret\ns stop stack-empty 1\ns end error 1\n")

-- a statement that the action does not have
abbrev pub StrayPick : Type 0
StrayPick = Writes returning (on (codes "r") ++ codes "pick s back 1 2\n") (codes "s do back 0 ?2\ns stop stray 1\ns end error 1\n")

-- any* with an action of one statement at each character
abbrev pub everywhere : List ℕ → Statement → Specification
everywhere name statement = record (source [] (N.All (N.Star any 1) (first 2))) { actions = with_statements (name, 1) (statement ∷ []) ∷ [] }

-- action again { if (q) { fexec r; } } main := any* $again; with one character to go back
abbrev pub TooFarBack : Type 0
TooFarBack = WritesWith (record { stack = 64; look = 1; token_max = 65536 }) (everywhere (codes "again") (record (states Exec) { outer = false }))
    (on (codes "abc") ++ codes "pick s again 3 1=0\n") (codes "s do again 0\ns do again 1\ns do again 2 exec 0\ns stop back 3\ns end error 3\n")

-- action jump { fexec p + 5; } main := any* $jump;
abbrev pub BehindEnd : Type 0
BehindEnd = Writes (everywhere (codes "jump") (record (states Exec) { base = P; offset = pos 5 }))
    (on (codes "a")) (codes "s do jump 0 exec 5\ns stop past-end 5\ns end error 5\n")
