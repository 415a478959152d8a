-- What a line of a script does to the sessions and to the log.
use Rattle.std.specs.Prelude.{◌≡◌, ◌≢◌, ℕ, ◌+◌, ◌*◌, ◌<◌, ◌^◌, Bool, true, false, if◌then◌else◌, List, [], ◌∷◌, ◌++◌, length, flat_map, Option, Some, None, unwrap_or, ◌⊎◌}
use Rattle.std.specs.Option.{option_map}
use Rattle.rl_run.specs.declared.calls.Outcome.{Outcome}
use Rattle.rl_run.specs.declared.calls.Verdict.{Verdict}
use Rattle.rl_run.specs.declared.calls.Verdict.TheVariants.{Partial, Error}
use Rattle.rl_arrays.specs.declared.arrays.Arrays.{Arrays}
use Rattle.rl_arrays.specs.TableMachine.{machine}
use Rattle.rl_replay.specs.Lines.{end_line, left_line}
use Rattle.rl_sessions.specs.SessionsValue.{SessionValue, SessionsValue, find, started, verdict_in}
use Rattle.rl_sessions.specs.Runs.{TakesPiece, TakesEnd}
use Rattle.rl_playback.specs.declared.log.Log.{Log}
use Rattle.rl_playback.specs.Log.{LogsCall, tables_of, stop_text}

-- what is told of the session of a name
abbrev pub next_of : List ℕ → SessionsValue → ℕ
next_of s sessions = unwrap_or (option_map (λ (x : SessionValue). x.session.next) (find s sessions.all)) 0

abbrev pub verdict_of : List ℕ → SessionsValue → Verdict
verdict_of s sessions = unwrap_or (option_map (verdict_in sessions.tables) (find s sessions.all)) Partial

-- the session of the name has stopped, if there is one
abbrev pub HasStopped : List ℕ → SessionsValue → Type 0
HasStopped s sessions = (x : SessionValue) → find s sessions.all ≡ Some x → verdict_in sessions.tables x ≡ Error

abbrev pub HasNotStopped : List ℕ → SessionsValue → Type 0
HasNotStopped s sessions = (x : SessionValue) → find s sessions.all ≡ Some x → verdict_in sessions.tables x ≢ Error

-- a session that has not stopped has room for a piece more
abbrev pub HasRoom : List ℕ → List ℕ → SessionsValue → Type 0
HasRoom s piece sessions =
    (x : SessionValue) → find s sessions.all ≡ Some x → verdict_in sessions.tables x ≢ Error →
    (machine sessions.tables).width * x.base + length x.window + length piece < 2 ^ 63

-- the log has a text more
pub record Adds (old new : Log) (text : List ℕ) : Type 0 where
  pub gains : new.text.items ≡ old.text.items ++ text
  pub books : new.books ≡ old.books
  pub tables : tables_of new ≡ tables_of old
  pub room : new.is_full ≡ old.is_full

-- a session of the name was started and not ended
pub record HasLive (s : List ℕ) (sessions : SessionsValue) : Type 0 where
  pub session : SessionValue
  pub found : find s sessions.all ≡ Some session
  pub going : session.is_closed ≡ false

-- a session that no line has opened starts at an entry, behind all others
pub record Opens (s : List ℕ) (entry : ℕ) (old new : SessionsValue) : Type 0 where
  pub unknown : find s old.all ≡ None
  pub others : new ≡ record old { all = old.all ++ started s ((machine old.tables).entry entry) ∷ [] }

module _ (s : List ℕ) (old new : SessionsValue) (first last : Log) where
  -- a piece of a session that has stopped does nothing
  pub record Idles : Type 0 where
    pub stopped : HasStopped s old
    pub sessions : new ≡ old
    pub log : last ≡ first

  -- a piece of another is run, and where the run stops its stop line is added
  pub record FeedsOn (piece : List ℕ) : Type 0 where
    pub outcome : Outcome
    pub mid : Log
    pub going : HasNotStopped s old
    pub taken : TakesPiece LogsCall first mid s old new piece outcome
    pub room : mid.is_full ≡ false
    pub adds : Adds mid last (stop_text s outcome (next_of s new))

  abbrev pub Feeds : List ℕ → Type 0
  Feeds piece = Idles ⊎ FeedsOn piece

  -- the session is run to the end; where it stops there, its stop line is added, and then its end line
  pub record Finishes : Type 0 where
    pub outcome : Outcome
    pub mid : Log
    pub was_stopped : Bool
    pub stopped : was_stopped ≡ true → HasStopped s old
    pub going : was_stopped ≡ false → HasNotStopped s old
    pub taken : TakesEnd LogsCall first mid s old new outcome
    pub room : mid.is_full ≡ false
    pub adds : Adds mid last ((if was_stopped then [] else stop_text s outcome (next_of s new)) ++ end_line s (verdict_of s new) (next_of s new))

-- the left lines of the sessions that were not ended
abbrev pub left_text : Arrays → SessionValue → List ℕ
left_text a x = if x.is_closed then [] else left_line x.name (verdict_in a x) x.session.next

abbrev pub left_at : Arrays → Option SessionValue → List ℕ
left_at a None = []
left_at a (Some x) = left_text a x

abbrev pub left_texts : Arrays → List SessionValue → List ℕ
left_texts a all = flat_map (left_text a) all
