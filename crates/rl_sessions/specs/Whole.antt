-- Runs of sessions from their start.
use Rattle.std.specs.Prelude.{◌≡◌, ℕ, ◌<◌, ◌^◌, false, List, ◌++◌, length, Option, Some, None}
use Rattle.rl_run.specs.declared.calls.Answer.{Answer}
use Rattle.rl_run.specs.declared.calls.Call.{Call}
use Rattle.rl_run.specs.declared.calls.Outcome.{Outcome}
use Rattle.rl_run.specs.declared.calls.Outcome.TheVariants.{Wants}
use Rattle.rl_run.specs.declared.sessions.Settings.{Settings}
use Rattle.rl_run.specs.Machine.{Machine, fresh}
use Rattle.rl_run.specs.Run.{rest, input_at}
use Rattle.rl_run.specs.Chain.{Chain, IsLogOf, run_on}
use Rattle.rl_runner.specs.Feeds.{over_after}
use Rattle.rl_sessions.specs.SessionsValue.{SessionValue, IsWindowOf}
use Rattle.rl_sessions.specs.Runs.{Takes, Ends}

-- what a run has come to: it is over, or wants more
abbrev pub outcome_so_far : Option Outcome → Outcome
outcome_so_far None = Wants
outcome_so_far (Some outcome) = outcome

-- the calls that were made of a session so far are those of the run from the start of its entry over all bytes of its
-- input, with
-- exactly the answers that were given, and the session stands where that run stands
pub record HasRun (m : Machine ℕ) (settings : Settings) (entry : ℕ) (input : List ℕ) (log : List (Call × Answer))
    (x : SessionValue) : Type 0 where
  pub window : x.over ≡ None → IsWindowOf m.width input x
  pub ran : IsLogOf (run_on false m settings (input_at m.width 0 input x.is_closed) (fresh (m.entry entry))) log
      (rest (Some (outcome_so_far x.over)) x.session)
  pub kept : (outcome : Outcome) → x.over ≡ Some outcome → over_after outcome ≡ Some outcome

module _ {H : Type 0} (step : H → Call → Answer → H → Type 0) (m : Machine ℕ) where
  -- so it is behind a piece more, with the calls that this piece made
  abbrev pub PiecesRunOn : Type 0
  PiecesRunOn =
      (settings : Settings) (entry : ℕ) (input piece : List ℕ) (log : List (Call × Answer)) (x y : SessionValue)
      (outcome : Outcome) (host last : H) →
      length (input ++ piece) < 2 ^ 63 → x.is_closed ≡ false → HasRun m settings entry input log x →
      Takes step m settings piece host last x y outcome →
      (more : List (Call × Answer)) × Chain step host more last
      × HasRun m settings entry (input ++ piece) (log ++ more) y

  -- and behind the end
  abbrev pub EndsRunOut : Type 0
  EndsRunOut = (settings : Settings) (entry : ℕ) (input : List ℕ) (log : List (Call × Answer)) (x y : SessionValue)
      (outcome : Outcome) (host last : H) →
      length input < 2 ^ 63 → x.is_closed ≡ false → HasRun m settings entry input log x →
      Ends step m settings host last x y outcome →
      (more : List (Call × Answer)) × Chain step host more last × HasRun m settings entry input (log ++ more) y
