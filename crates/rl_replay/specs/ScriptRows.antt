-- Scripts, and what a replay writes for them.
use Rattle.std.specs.Prelude.{◌≡◌, ℕ, Bool, false, cond, pos, List, [], ◌∷◌, ◌&&◌, not, int_lt, nat_eq, Option, Some, None, Result, Ok, Err, codes}
use Rattle.rl_types.specs.declared.numbers.Key.{Key}
use Rattle.rl_run.specs.declared.sessions.Settings.{Settings}
use Rattle.rl_run.specs.declared.statements.Statement.{Statement}
use Rattle.rl_run.specs.declared.statements.StatementKind.TheVariants.{Hold}
use Rattle.rl_run.specs.declared.statements.GoalBase.TheVariants.{Unread}
use Rattle.rl_run.specs.Machine.{Go, Machine}
use Rattle.rl_replay.specs.declared.script.Line.{Line}
use Rattle.rl_replay.specs.declared.script.ScriptFault.{ScriptFault}
use Rattle.rl_replay.specs.declared.script.ScriptFault.TheVariants.{BadLine, Twice, NoSession, NoEntry}
use Rattle.rl_replay.specs.Script.{read_script}
use Rattle.rl_replay.specs.Sessions.{Names, script_of}
use Rattle.rl_replay.specs.Written.{whole_input, written}

-- ---- a machine

abbrev pub names : Names
names = record { entries = codes "main" ∷ []; actions = codes "x" ∷ []; conditions = codes "c" ∷ [] }

abbrev pub settings : Settings
settings = record { stack = 64; look = 8; token_max = 65536 }

abbrev pub same_key : Key → ℕ → Bool
same_key key n = not (int_lt key.0 (pos n)) && not (int_lt (pos n) key.0)

-- 'ab' $x: the start is 1, 3 is final
abbrev pub find_ab : ℕ → Key → Option (Go ℕ)
find_ab state key =
    cond (nat_eq state 1 && same_key key 97) (Some (record { target = 2; list = 1 ∷ [] }))
    (cond (nat_eq state 2 && same_key key 98) (Some (record { target = 3; list = 1 ∷ [] })) None)

-- a hold inside inner braces, which the host does not take by itself
abbrev pub hold : Statement
hold = record { kind = Hold; outer = false; entry = None; base = Unread; offset = pos 0 }

abbrev pub ab : Machine ℕ
ab = record {
  width = 1;
  key_of = λ byte. record { 0 = pos byte };
  asked = λ state key. 0;
  find = λ state key hold. find_ab state key;
  from = λ state. [];
  to = λ state. [];
  error = λ state. [];
  eof = λ state. [];
  token = λ state. [];
  kind = λ state. 0;
  final = λ state. nat_eq state 3;
  home = λ state. 0;
  failed = 0;
  is_failed = λ state. nat_eq state 0;
  entry = λ e. 1;
  statement = λ a n. cond (nat_eq n 1) (Some hold) None;
  action_name = λ a. codes "x";
  condition_name = λ c. [];
  entry_name = λ e. codes "main";
}

-- what is written for a text
abbrev pub written_for : Machine ℕ → Result (List Line) ScriptFault → List ℕ
written_for m (Ok lines) = written names m settings lines
written_for m (Err fault) = []

abbrev pub replay : Machine ℕ → List ℕ → List ℕ
replay m text = written_for m (script_of names text)

-- ---- scripts

abbrev pub AreThreeLines : Type 0
AreThreeLines = read_script (codes "open s\npiece s \"ab\"\nend s\n") ≡ Ok (whole_input (codes "s") None (codes "ab"))

abbrev pub IsNoLine : Type 0
IsNoLine = read_script (codes "open s\nopne s\n") ≡ Err (BadLine 2)

abbrev pub IsNotOpen : Type 0
IsNotOpen = script_of names (codes "piece s \"a\"") ≡ Err (NoSession 1)

abbrev pub IsOpenedTwice : Type 0
IsOpenedTwice = script_of names (codes "open s\nend s\nopen s") ≡ Err (Twice 3)

abbrev pub IsNoEntry : Type 0
IsNoEntry = script_of names (codes "open s nowhere") ≡ Err (NoEntry 1)

-- ---- what is written

abbrev pub EachCallHasItsLine : Type 0
EachCallHasItsLine = replay ab (codes "open s\npiece s \"ab\"\nend s\n") ≡ codes "s do x 0\ns do x 1\ns end final 2\n"

-- a stopped session takes no more pieces
abbrev pub StopsForGood : Type 0
StopsForGood = replay ab (codes "open s\npiece s \"ac\"\npiece s \"ab\"\nend s") ≡ codes "s do x 0\ns stop error 1\ns end error 1\n"

-- of sessions that are not ended the last lines tell
abbrev pub LeftAreTold : Type 0
LeftAreTold = replay ab (codes "open s\nopen t main\npiece t \"a\"\npiece s \"ab\"") ≡ codes "t do x 0\ns do x 0\ns do x 1\ns left final 2\nt left partial 1\n"

-- each line writes what it adds
abbrev pub SessionsTakeTurns : Type 0
SessionsTakeTurns =
    replay ab (codes "open s\nopen t\npiece s \"a\"\npiece t \"ab\"\npiece s \"b\"\nend t\nend s")
    ≡ codes "s do x 0\nt do x 0\nt do x 1\ns do x 1\nt end final 2\ns end final 2\n"

-- what is picked for one session is not for another
abbrev pub SecondCallIsPicked : Type 0
SecondCallIsPicked =
    replay ab (codes "pick s x 2 1\nopen s\nopen t\npiece s \"ab\"\npiece t \"ab\"\nend s\nend t")
    ≡ codes "s do x 0\ns do x 1 hold\ns stop error 1\nt do x 0\nt do x 1\ns end error 1\nt end final 2\n"

-- a pick of a statement that the action does not have stops the session
abbrev pub NoSuchStatement : Type 0
NoSuchStatement = replay ab (codes "open s\npick s x 1 7\npiece s \"ab\"\nend s") ≡ codes "s do x 0 ?7\ns stop stray 1\ns end error 1\n"

-- 0x100 $x, in characters of two bytes
abbrev pub find_wide : ℕ → Key → Option (Go ℕ)
find_wide state key = cond (nat_eq state 1 && same_key key 256) (Some (record { target = 3; list = 1 ∷ [] })) None

abbrev pub wide : Machine ℕ
wide = record ab { width = 2; find = λ state key hold. find_wide state key }

-- a piece may end within a character
abbrev pub ACharacterIsCut : Type 0
ACharacterIsCut =
    replay wide (codes "open s\npiece s \"\\x00\"\npiece s \"\\x01\"\nend s")
    ≡ codes "s do x 0\ns end final 1\n"

-- and an input may not
abbrev pub HalfACharacter : Type 0
HalfACharacter = replay wide (codes "open s\npiece s \"\\x00\"\nend s") ≡ codes "s stop half-key 0\ns end error 0\n"
