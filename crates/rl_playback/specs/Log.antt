-- What a log holds after a call.
use Rattle.std.specs.Prelude.{◌≡◌, ℕ, ◌+◌, Bool, false, if◌then◌else◌, ◌&&◌, List, [], ◌++◌, unwrap_or}
use Rattle.rl_run.specs.declared.calls.Answer.{Answer}
use Rattle.rl_run.specs.declared.calls.Answer.TheVariants.{Yes, No}
use Rattle.rl_run.specs.declared.calls.Call.{Call}
use Rattle.rl_run.specs.declared.calls.Outcome.{Outcome}
use Rattle.rl_run.specs.declared.calls.Outcome.TheVariants.{Wants, Broke, Ended, Stopped}
use Rattle.rl_run.specs.Picks.{takes_picks}
use Rattle.rl_run.specs.Twin.{name_of}
use Rattle.rl_arrays.specs.declared.arrays.Arrays.{Arrays}
use Rattle.rl_arrays.specs.TableMachine.{machine}
use Rattle.rl_replay.specs.Host.{is_ask, picks_answer, own_picks}
use Rattle.rl_replay.specs.Lines.{call_line, stop_line}
use Rattle.rl_playback.specs.declared.log.Log.{Log}
use Rattle.rl_playback.specs.Books.{Named, same, count_in, next_in}

-- the tables whose calls are logged
abbrev pub tables_of : Log → Arrays
tables_of log = log.names.tables.now

-- the log's session, and what is called
abbrev pub called : Log → Call → Named
called log c = (log.session.now, name_of (machine (tables_of log)) c)

-- the answer of the session's line for a call, or else the one that is given by itself
abbrev pub answer_by : Log → Call → Answer
answer_by log c =
    if is_ask c.kind then unwrap_or (next_in (called log c) log.books.asks) No
    else (if takes_picks c.kind then unwrap_or (next_in (called log c) log.books.picks) (picks_answer (own_picks (machine (tables_of log)) c))
    else Yes)

-- a count, which a call raises where it is of the sort and the name
abbrev pub raised : Bool → Named → Named → ℕ → ℕ
raised is_counted p q count = if is_counted && same q p then count + 1 else count

-- what stays: the tables, the session and the answers of the script
pub record IsSameLog (old new : Log) : Type 0 where
  pub tables : tables_of new ≡ tables_of old
  pub session : new.session.now ≡ old.session.now
  pub picks : new.books.picks.answers ≡ old.books.picks.answers
  pub asks : new.books.asks.answers ≡ old.books.asks.answers

-- a call is answered and counted
pub record AnswersCall (old new : Log) (c : Call) (answer : Answer) : Type 0 where
  pub same_log : IsSameLog old new
  pub gives : answer ≡ answer_by old c
  pub pick_counts : (q : Named) → count_in q new.books.picks.counts ≡ raised (takes_picks c.kind) (called old c) q (count_in q old.books.picks.counts)
  pub ask_counts : (q : Named) → count_in q new.books.asks.counts ≡ raised (is_ask c.kind) (called old c) q (count_in q old.books.asks.counts)

-- and the line of the call and its answer stands at the end
pub record Logs (old new : Log) (c : Call) (answer : Answer) : Type 0 where
  pub answers : AnswersCall old new c answer
  pub room : old.is_full ≡ false
  pub text : new.text.items ≡ old.text.items ++ call_line (machine (tables_of old)) old.session.now c answer

-- unless the log is full
abbrev pub LogsCall : Log → Call → Answer → Log → Type 0
LogsCall old c answer new = new.is_full ≡ false → Logs old new c answer

-- the stop line, where the run stopped
abbrev pub stop_text : List ℕ → Outcome → ℕ → List ℕ
stop_text s (Stopped cause) next = stop_line s cause next
stop_text s Wants next = []
stop_text s Broke next = []
stop_text s Ended next = []
