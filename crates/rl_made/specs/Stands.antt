-- Where the session and its tally stand behind some of the input.
use Rattle.std.specs.Prelude.{◌≡◌, ℕ, Bool, List, [], ◌∷◌, ◌++◌, map, count_by, Some}
use Rattle.rl_run.specs.declared.calls.Answer.{Answer}
use Rattle.rl_run.specs.declared.calls.Call.{Call}
use Rattle.rl_run.specs.declared.sessions.Settings.{Settings}
use Rattle.rl_run.specs.Machine.{Machine}
use Rattle.rl_arrays.specs.declared.arrays.Arrays.{Arrays}
use Rattle.rl_arrays.specs.Rules.{start_entry}
use Rattle.rl_arrays.specs.TableMachine.{machine}
use Rattle.rl_arrays.specs.Valid.{Valid}
use Rattle.rl_replay.specs.Host.{host}
use Rattle.rl_sessions.specs.SessionsValue.{SessionValue, SessionsValue, find}
use Rattle.rl_sessions.specs.Whole.{HasRun}
use Rattle.rl_made.specs.Made.{is_token}
use Rattle.rl_made.specs.Tally.{Counts}
use Rattle.rl_made.specs.declared.tally.Tally.{Tally}

-- each call is answered as without a line for it
abbrev pub AreOwn : Machine ℕ → List (Call × Answer) → Type 0
AreOwn m [] = Unit {0}
AreOwn m (x ∷ xs) = ((past : List Call) → x.1 ≡ host m [] (past ++ x.0 ∷ [])) × AreOwn m xs

-- the tokens among calls and their answers
abbrev pub tokens_among : List (Call × Answer) → ℕ
tokens_among log = count_by (λ (c : Call). is_token c.kind) (map (λ x. x.0) log)

-- the session of the name has run over this input from the start entry on, with calls that were answered as without a line and whose
-- tokens were counted
pub record Stands (a : Arrays) (settings : Settings) (name : List ℕ) (is_closed : Bool) (input : List ℕ) (tally : Tally)
    (sessions : SessionsValue) : Type 0 where
  pub valid : Valid a
  pub tally_tables : tally.names.tables.now ≡ a
  pub tables : sessions.tables ≡ a
  pub bounds : sessions.settings ≡ settings
  pub session : SessionValue
  pub found : find name sessions.all ≡ Some session
  pub closed : session.is_closed ≡ is_closed
  pub log : List (Call × Answer)
  pub ran : HasRun (machine a) settings (start_entry a) input log session
  pub own : AreOwn (machine a) log
  pub counts : Counts tally.tokens (tokens_among log)
