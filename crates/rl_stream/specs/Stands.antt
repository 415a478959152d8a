-- Where the session and the log stand behind the bytes that were read.
use Rattle.std.specs.Prelude.{◌≡◌, ℕ, ◌<◌, ◌^◌, Bool, true, false, if◌then◌else◌, List, [], ◌++◌, length, is_some, Some}
use Rattle.rl_run.specs.declared.calls.Answer.{Answer}
use Rattle.rl_run.specs.declared.calls.Call.{Call}
use Rattle.rl_run.specs.declared.calls.Outcome.{Outcome}
use Rattle.rl_run.specs.declared.calls.Outcome.TheVariants.{Wants, Broke, Ended, Stopped}
use Rattle.rl_run.specs.declared.sessions.Settings.{Settings}
use Rattle.rl_runner.specs.Feeds.{over_after}
use Rattle.rl_arrays.specs.declared.arrays.Arrays.{Arrays}
use Rattle.rl_arrays.specs.TableMachine.{machine}
use Rattle.rl_arrays.specs.Valid.{Valid}
use Rattle.rl_replay.specs.Host.{host}
use Rattle.rl_replay.specs.Lines.{calls_lines, stop_lines, stop_line}
use Rattle.rl_sessions.specs.SessionsValue.{SessionValue, SessionsValue, find}
use Rattle.rl_sessions.specs.Whole.{HasRun, outcome_so_far}
use Rattle.rl_stream.specs.declared.log.Log.{Log}
use Rattle.rl_stream.specs.Lines.{input_name, calls_in, IsHosted, lines_over, rest_of}
use Rattle.rl_stream.specs.Log.{tables_of}

-- a session of the name was started and not ended
pub record HasLive (name : List ℕ) (sessions : SessionsValue) : Type 0 where
  pub session : SessionValue
  pub found : find name sessions.all ≡ Some session
  pub going : session.is_closed ≡ false

-- the lines of calls that the host answers
abbrev pub lines_of_calls : Arrays → List (Call × Answer) → List ℕ
lines_of_calls a log = calls_lines (machine a) input_name (host (machine a) []) [] (calls_in log)

-- the stop line of a run that came to an outcome
abbrev pub stop_text : Outcome → ℕ → List ℕ
stop_text (Stopped cause) next = stop_line input_name cause next
stop_text Wants next = []
stop_text Broke next = []
stop_text Ended next = []

-- the same, unless it was told before
abbrev pub new_stop : Bool → Outcome → ℕ → List ℕ
new_stop was_over outcome next = if was_over then [] else stop_text outcome next

-- the session has run over the bytes from the entry on, with calls that the host answered, and their lines and that of its stop were
-- written, which is done, or stand in the log
pub record Stands (a : Arrays) (settings : Settings) (entry : ℕ) (bytes done : List ℕ) (is_over : Bool) (log : Log) (sessions : SessionsValue) : Type 0 where
  pub valid : Valid a
  pub log_tables : tables_of log ≡ a
  pub tables : sessions.tables ≡ a
  pub bounds : sessions.settings ≡ settings
  pub session : SessionValue
  pub found : find input_name sessions.all ≡ Some session
  pub open_yet : session.is_closed ≡ false
  pub over : is_over ≡ is_some session.over
  pub calls : List (Call × Answer)
  pub ran : HasRun (machine a) settings entry bytes calls session
  pub hosted : IsHosted (machine a) [] calls
  pub text : done ++ log.text.items ≡ lines_of_calls a calls ++ stop_lines input_name (rest_of session)

-- the same right behind its calls: its stop is told only if it was over before
pub record Taken (a : Arrays) (settings : Settings) (entry : ℕ) (bytes done : List ℕ) (was_over is_closed : Bool) (outcome : Outcome) (log : Log) (sessions : SessionsValue) : Type 0 where
  pub valid : Valid a
  pub log_tables : tables_of log ≡ a
  pub tables : sessions.tables ≡ a
  pub bounds : sessions.settings ≡ settings
  pub session : SessionValue
  pub found : find input_name sessions.all ≡ Some session
  pub closed : session.is_closed ≡ is_closed
  pub came : outcome_so_far session.over ≡ outcome
  pub over : is_closed ≡ false → session.over ≡ over_after outcome
  pub calls : List (Call × Answer)
  pub ran : HasRun (machine a) settings entry bytes calls session
  pub hosted : IsHosted (machine a) [] calls
  pub text : done ++ log.text.items ≡ lines_of_calls a calls ++ (if was_over then stop_lines input_name (rest_of session) else [])

-- a text was added to the log
pub record Adds (old new : Log) (text : List ℕ) : Type 0 where
  pub tables : tables_of new ≡ tables_of old
  pub items : new.text.items ≡ old.text.items ++ text

-- the calls over a piece more, and those at the end
pub record TakesMore (was_over : Bool) (piece : List ℕ) (outcome : Outcome) (old new : Log) (from to : SessionsValue) : Type 0 where
  pub taken : (a : Arrays) (settings : Settings) (entry : ℕ) (bytes done : List ℕ) → length (bytes ++ piece) < 2 ^ 63 →
      Stands a settings entry bytes done was_over old from → Taken a settings entry (bytes ++ piece) done was_over false outcome new to

pub record TakesLast (was_over : Bool) (outcome : Outcome) (old new : Log) (from to : SessionsValue) : Type 0 where
  pub taken : (a : Arrays) (settings : Settings) (entry : ℕ) (bytes done : List ℕ) → length bytes < 2 ^ 63 →
      Stands a settings entry bytes done was_over old from → Taken a settings entry bytes done was_over true outcome new to

-- the lines of a piece more
pub record Feeds (was_over is_over : Bool) (piece : List ℕ) (old new : Log) (from to : SessionsValue) : Type 0 where
  pub feeds : (a : Arrays) (settings : Settings) (entry : ℕ) (bytes done : List ℕ) → length (bytes ++ piece) < 2 ^ 63 →
      Stands a settings entry bytes done was_over old from → Stands a settings entry (bytes ++ piece) done is_over new to

-- all lines of the run to the end of its input
pub record Finishes (was_over : Bool) (old new : Log) (from : SessionsValue) : Type 0 where
  pub lines : (a : Arrays) (settings : Settings) (entry : ℕ) (bytes done : List ℕ) → length bytes < 2 ^ 63 →
      Stands a settings entry bytes done was_over old from → done ++ new.text.items ≡ lines_over (machine a) settings entry bytes true
