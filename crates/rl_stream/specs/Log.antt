-- What the log of the one session holds after a call.
use Rattle.std.specs.Prelude.{◌≡◌, false, List, [], ◌∷◌, ◌++◌, ℕ}
use Rattle.rl_run.specs.declared.calls.Answer.{Answer}
use Rattle.rl_run.specs.declared.calls.Call.{Call}
use Rattle.rl_arrays.specs.declared.arrays.Arrays.{Arrays}
use Rattle.rl_arrays.specs.TableMachine.{machine}
use Rattle.rl_replay.specs.Host.{host}
use Rattle.rl_replay.specs.Lines.{call_line}
use Rattle.rl_stream.specs.declared.log.Log.{Log}
use Rattle.rl_stream.specs.Lines.{input_name}

-- the tables whose calls are logged
abbrev pub tables_of : Log → Arrays
tables_of log = log.names.tables.now

-- a call is answered as the host of no lines answers it, whatever was called before, and its line stands at the end
pub record Logs (old new : Log) (c : Call) (answer : Answer) : Type 0 where
  pub tables : tables_of new ≡ tables_of old
  pub gives : (past : List Call) → answer ≡ host (machine (tables_of old)) [] (past ++ c ∷ [])
  pub room : old.is_full ≡ false
  pub text : new.text.items ≡ old.text.items ++ call_line (machine (tables_of old)) input_name c answer

-- unless the log is full
abbrev pub LogsCall : Log → Call → Answer → Log → Type 0
LogsCall old c answer new = new.is_full ≡ false → Logs old new c answer
