-- Runs that are put together.
use Rattle.std.specs.Prelude.{◌≡◌, ℕ, ◌*◌, ◌≤◌, false, List, Some, length, drop}
use Rattle.rl_run.specs.declared.calls.Answer.{Answer}
use Rattle.rl_run.specs.declared.calls.Call.{Call}
use Rattle.rl_run.specs.declared.calls.Outcome.{Outcome}
use Rattle.rl_run.specs.declared.calls.Outcome.TheVariants.{Wants, Broke, Ended, Stopped}
use Rattle.rl_run.specs.declared.sessions.Settings.{Settings}
use Rattle.rl_run.specs.Machine.{Machine, Session}
use Rattle.rl_run.specs.Run.{Input, Rest, rest, turns}
use Rattle.rl_run.specs.Play.{Plays}
use Rattle.rl_run.specs.Chain.{Played, Extends, run_on}
use Rattle.rl_runner.specs.Feeds.{closed_of}

module _ {S H : Type 0} (step : H → Call → Answer → H → Type 0) (m : Machine S) (settings : Settings) (whole : Input) (h : H) (s : Session S) where
  -- whatever plays on from there, plays on from here
  pub record Joins (mid : H) (t : Session S) : Type 0 where
    pub on : (last : H) (r : Rest S) (k : ℕ) → Plays step mid (turns false m settings whole k t) last r →
        (j : ℕ) × Plays step h (turns false m settings whole j s) last r

  -- a run came so far, or stopped for good
  abbrev pub Comes : Outcome → H → Session S → Type 0
  Comes Wants mid t = Joins mid t
  Comes (Stopped cause) mid t = (j : ℕ) × Plays step h (turns false m settings whole j s) mid (rest (Some (Stopped cause)) t)
  Comes Broke mid t = ⊥
  Comes Ended mid t = ⊥

-- what is seen of an input was run over, whatever that input is
pub record RanOver {S H : Type 0} (step : H → Call → Answer → H → Type 0) (m : Machine S) (settings : Settings) (seen : Input)
    (h : H) (s : Session S) (outcome : Outcome) (last : H) (t : Session S) : Type 0 where
  pub comes : (whole : Input) → Extends seen whole → Comes step m settings whole h s outcome last t

-- the same, and the run goes on
pub record RunsFrom {S H : Type 0} (step : H → Call → Answer → H → Type 0) (m : Machine S) (settings : Settings) (seen : Input)
    (h : H) (s : Session S) (mid : H) (t : Session S) : Type 0 where
  pub joins : (whole : Input) → Extends seen whole → Joins step m settings whole h s mid t

-- the last bytes of an input were run over, and what follows at its end, whatever that input is
pub record RanOut {S H : Type 0} (step : H → Call → Answer → H → Type 0) (m : Machine S) (settings : Settings) (base : ℕ) (window : List ℕ)
    (h : H) (s : Session S) (outcome : Outcome) (last : H) (t : Session S) : Type 0 where
  pub ran : (input : List ℕ) → m.width * base ≤ length input → drop (m.width * base) input ≡ window →
      Played step h (run_on false m settings (closed_of m.width 0 input) s) last (rest (Some outcome) t)

-- the same, and the run goes on
pub record EndsFrom {S H : Type 0} (step : H → Call → Answer → H → Type 0) (m : Machine S) (settings : Settings) (base : ℕ) (window : List ℕ)
    (h : H) (s : Session S) (mid : H) (t : Session S) : Type 0 where
  pub joins : (input : List ℕ) → m.width * base ≤ length input → drop (m.width * base) input ≡ window →
      Joins step m settings (closed_of m.width 0 input) h s mid t
