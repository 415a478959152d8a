-- What contracts see of sessions.
use Rattle.std.specs.Prelude.{◌≡◌, ℕ, ◌*◌, ◌≤◌, Bool, true, false, not, List, [], ◌∷◌, length, drop, count_by, nat_le, is_some, Option, Some, None, if◌then◌else◌}
use Rattle.std.specs.Str.{bytes_eq}
use Rattle.rl_run.specs.declared.calls.Outcome.{Outcome}
use Rattle.rl_run.specs.declared.calls.Verdict.{Verdict}
use Rattle.rl_run.specs.declared.sessions.Settings.{Settings}
use Rattle.rl_run.specs.Machine.{Session, fresh}
use Rattle.rl_run.specs.Run.{rest}
use Rattle.rl_run.specs.Verdict.{verdict_of}
use Rattle.rl_arrays.specs.declared.arrays.Arrays.{Arrays}
use Rattle.rl_arrays.specs.TableMachine.{machine}
use Rattle.rl_sessions.specs.declared.fault.SessionFault.{SessionFault}
use Rattle.rl_sessions.specs.declared.fault.SessionFault.TheVariants.{Twice, Full}

-- a session: its name; the bytes of its input from a character on; where its run stands, and what it is over with;
-- whether it was ended
pub record SessionValue : Type 0 where
  pub name : List ℕ
  pub base : ℕ
  pub window : List ℕ
  pub session : Session ℕ
  pub over : Option Outcome
  pub is_closed : Bool

-- sessions over one set of tables, in the order in which they were started
pub record SessionsValue : Type 0 where
  pub tables : Arrays
  pub settings : Settings
  pub all : List SessionValue

-- a session that starts in a state
abbrev pub started : List ℕ → ℕ → SessionValue
started name state = record { name = name; base = 0; window = []; session = fresh state; over = None; is_closed = false }

-- the session of a name
abbrev pub find : List ℕ → List SessionValue → Option SessionValue
find name [] = None
find name (x ∷ xs) = if bytes_eq x.name name then Some x else find name xs

-- another value in place of the session of a name
abbrev pub replaced : List ℕ → SessionValue → List SessionValue → List SessionValue
replaced name y [] = []
replaced name y (x ∷ xs) = if bytes_eq x.name name then y ∷ xs else x ∷ replaced name y xs

-- how many sessions were not ended
abbrev pub live : List SessionValue → ℕ
live all = count_by (λ x. not x.is_closed) all

-- no session that was not ended has the name
abbrev pub HasNoLive : List ℕ → List SessionValue → Type 0
HasNoLive name all = (x : SessionValue) → find name all ≡ Some x → x.is_closed ≡ true

-- why no session of a name can be started
abbrev pub refusal : List ℕ → List SessionValue → Option SessionFault
refusal name all = if is_some (find name all) then Some Twice else (if nat_le 1024 (live all) then Some Full else None)

-- the window of a session is the bytes of an input from its base on, by the width of its characters
pub record IsWindowOf (width : ℕ) (input : List ℕ) (x : SessionValue) : Type 0 where
  pub within : width * x.base ≤ length input
  pub same : drop (width * x.base) input ≡ x.window

-- what is told of a session
abbrev pub verdict_in : Arrays → SessionValue → Verdict
verdict_in tables x = verdict_of (machine tables) (rest x.over x.session)
