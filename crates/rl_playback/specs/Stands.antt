-- Where a replay stands behind some of a script's lines.
use Rattle.std.specs.Prelude.{◌≡◌, ℕ, ◌<◌, ◌^◌, true, false, List, [], ◌∷◌, length, map, filter_map, Option, Some, None}
use Rattle.rl_run.specs.declared.sessions.Settings.{Settings}
use Rattle.rl_run.specs.declared.calls.Call.{Call}
use Rattle.rl_run.specs.declared.calls.Outcome.{Outcome}
use Rattle.rl_run.specs.declared.calls.Outcome.TheVariants.{Wants, Stopped}
use Rattle.rl_run.specs.declared.calls.Stop.{Stop}
use Rattle.rl_run.specs.Machine.{Machine}
use Rattle.rl_run.specs.Picks.{takes_picks}
use Rattle.rl_run.specs.Run.{rest}
use Rattle.rl_arrays.specs.TableMachine.{machine}
use Rattle.rl_arrays.specs.declared.arrays.Arrays.{Arrays}
use Rattle.rl_arrays.specs.Valid.{Valid}
use Rattle.rl_replay.specs.declared.script.Line.{Line}
use Rattle.rl_replay.specs.Host.{times, is_ask, given_picks, given_answer, picks_answer, yes_no}
use Rattle.std.specs.Option.{option_map}
use Rattle.rl_replay.specs.Sessions.{Names, only, opened_at, opened_by, is_opened, is_ended, fed, first_fault}
use Rattle.rl_replay.specs.Written.{texts, parts_from, host_run}
use Rattle.rl_script.specs.TableNames.{names_in}
use Rattle.rl_sessions.specs.SessionsValue.{SessionValue, SessionsValue, IsWindowOf, find}
use Rattle.rl_playback.specs.declared.books.Books.{Books}
use Rattle.rl_playback.specs.declared.log.Log.{Log}
use Rattle.rl_playback.specs.Books.{count_in, answer_in}
use Rattle.rl_playback.specs.Log.{tables_of}

-- the books answer for a session by its own lines, and have counted these calls of it
pub record Counts (m : Machine ℕ) (s : List ℕ) (own : List Line) (calls : List Call) (books : Books) : Type 0 where
  pub picks : (name : List ℕ) (n : ℕ) → answer_in (s, name) n books.picks.answers ≡ option_map picks_answer (given_picks own name n)
  pub says : (name : List ℕ) (n : ℕ) → answer_in (s, name) n books.asks.answers ≡ option_map yes_no (given_answer own name n)
  pub pick_counts : (name : List ℕ) → count_in (s, name) books.picks.counts ≡ times m takes_picks calls name
  pub ask_counts : (name : List ℕ) → count_in (s, name) books.asks.counts ≡ times m is_ask calls name

-- the outcome of a run that is over with one, or else wants more
abbrev pub outcome_of : Option Outcome → Outcome
outcome_of None = Wants
outcome_of (Some outcome) = outcome

module _ (names : Names) (m : Machine ℕ) (settings : Settings) (s : List ℕ) (own past : List Line) (books : Books) where
  -- a session that was not ended stands where the run over its pieces so far has come, and its calls were counted
  pub record HasCome (x : SessionValue) : Type 0 where
    pub calls : List Call
    pub run : host_run names m settings own past ≡ (calls, rest (Some (outcome_of x.over)) x.session)
    pub counts : Counts m s own calls books
    pub window : x.over ≡ None → IsWindowOf m.width (fed past) x
    pub stopped : (outcome : Outcome) → x.over ≡ Some outcome → (cause : Stop) × (outcome ≡ Stopped cause)

  -- a session that no line has opened
  pub record IsUnopened : Type 0 where
    pub opened : opened_at past ≡ None
    pub fed : fed past ≡ []
    pub ended : is_ended past ≡ false
    pub counts : Counts m s own [] books

  -- a session that one has opened
  pub record IsOpened (x : SessionValue) : Type 0 where
    pub opened : is_opened past ≡ true
    pub ended : is_ended past ≡ x.is_closed
    pub come : x.is_closed ≡ false → HasCome x

  abbrev pub StandsAt : Option SessionValue → Type 0
  StandsAt None = IsUnopened
  StandsAt (Some x) = IsOpened x

-- no two sessions have one name
abbrev pub AreDistinct : List SessionValue → Type 0
AreDistinct [] = Unit {0}
AreDistinct (x ∷ xs) = (find x.name xs ≡ None) × AreDistinct xs

-- each session stands where its run has come, and what is written is what the lines so far add
pub record Stands (settings : Settings) (script past : List Line) (a : Arrays) (log : Log) (sessions : SessionsValue) : Type 0 where
  pub valid : Valid a
  pub admitted : first_fault (names_in a) script ≡ None
  pub small : length (fed script) < 2 ^ 63
  pub tables : tables_of log ≡ a
  pub machine_tables : sessions.tables ≡ a
  pub bounds : sessions.settings ≡ settings
  pub room : log.is_full ≡ false
  pub names : map (λ (x : SessionValue). x.name) sessions.all ≡ filter_map (λ line. opened_by line.event) past
  pub distinct : AreDistinct sessions.all
  pub each : (s : List ℕ) → StandsAt (names_in a) (machine a) settings s (only s script) (only s past) log.books (find s sessions.all)
  pub text : log.text.items ≡ texts (parts_from (names_in a) (machine a) settings script [] past)
