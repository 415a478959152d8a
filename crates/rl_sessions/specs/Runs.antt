-- What a call on one session does.
use Rattle.std.specs.Prelude.{◌≡◌, ◌≢◌, ℕ, true, false, List, ◌++◌, map, Some, None}
use Rattle.std.specs.Str.{bytes_eq}
use Rattle.rl_run.specs.declared.calls.Answer.{Answer}
use Rattle.rl_run.specs.declared.calls.Call.{Call}
use Rattle.rl_run.specs.declared.calls.Outcome.{Outcome}
use Rattle.rl_run.specs.declared.calls.Outcome.TheVariants.{Wants, Broke}
use Rattle.rl_run.specs.declared.sessions.Settings.{Settings}
use Rattle.rl_run.specs.Machine.{Machine}
use Rattle.rl_run.specs.Run.{rest}
use Rattle.rl_run.specs.Chain.{Played, run_on}
use Rattle.rl_runner.specs.Feeds.{window_of, closed_of, over_after}
use Rattle.rl_arrays.specs.TableMachine.{machine}
use Rattle.rl_sessions.specs.SessionsValue.{SessionValue, SessionsValue, IsWindowOf, find, replaced}

module _ {H : Type 0} (step : H → Call → Answer → H → Type 0) (m : Machine ℕ) (settings : Settings) where
  -- a run on an input goes on over a piece more, behind every break, and stands where the outcome says; whatever the
  -- input was, as long as the window is its end; a piece may end within a character
  pub record RunsOver (piece : List ℕ) (host last : H) (x y : SessionValue) (outcome : Outcome) : Type 0 where
    pub played : (before : List ℕ) → IsWindowOf m.width before x →
        Played step host (run_on false m settings (window_of m.width 0 (before ++ piece)) x.session) last
        (rest (Some outcome) y.session)
    pub window : y.over ≡ None → (before : List ℕ) → IsWindowOf m.width before x →
        IsWindowOf m.width (before ++ piece) y
    pub over : y.over ≡ over_after outcome
    pub unbroken : outcome ≢ Broke

  -- it goes on to the end of that input
  pub record RunsOut (host last : H) (x y : SessionValue) (outcome : Outcome) : Type 0 where
    pub played : (before : List ℕ) → IsWindowOf m.width before x →
        Played step host (run_on false m settings (closed_of m.width 0 before) x.session) last
        (rest (Some outcome) y.session)
    pub over : y.over ≡ Some outcome
    pub unbroken : outcome ≢ Broke
    pub ends : outcome ≢ Wants

  -- a session that is over calls nobody and answers the same
  pub record Rests (host last : H) (x y : SessionValue) (o outcome : Outcome) : Type 0 where
    pub outcome_same : outcome ≡ o
    pub session_same : y.session ≡ x.session
    pub over_same : y.over ≡ x.over
    pub host_same : last ≡ host

  -- a piece
  pub record Takes (piece : List ℕ) (host last : H) (x y : SessionValue) (outcome : Outcome) : Type 0 where
    pub name : y.name ≡ x.name
    pub is_closed : y.is_closed ≡ x.is_closed
    pub going : x.over ≡ None → RunsOver piece host last x y outcome
    pub stopped : (o : Outcome) → x.over ≡ Some o → Rests host last x y o outcome

  -- the end
  pub record Ends (host last : H) (x y : SessionValue) (outcome : Outcome) : Type 0 where
    pub name : y.name ≡ x.name
    pub is_closed : y.is_closed ≡ true
    pub going : x.over ≡ None → RunsOut host last x y outcome
    pub stopped : (o : Outcome) → x.over ≡ Some o → Rests host last x y o outcome

-- the session of a name, which was not ended, becomes another; all else stays
pub record Becomes (name : List ℕ) (old new : SessionsValue) (x y : SessionValue) : Type 0 where
  pub found : find name old.all ≡ Some x
  pub was_live : x.is_closed ≡ false
  pub others : new ≡ record old { all = replaced name y old.all }
  pub finds : find name new.all ≡ Some y
  pub finds_others : (other : List ℕ) → bytes_eq name other ≡ false → find other new.all ≡ find other old.all
  pub names : map (λ z. z.name) new.all ≡ map (λ z. z.name) old.all

module _ {H : Type 0} (step : H → Call → Answer → H → Type 0) (host last : H) (name : List ℕ) (old new : SessionsValue) where
  -- a session of the name takes a piece
  pub record TakesPiece (piece : List ℕ) (outcome : Outcome) : Type 0 where
    pub earlier : SessionValue
    pub later : SessionValue
    pub becomes : Becomes name old new earlier later
    pub takes : Takes step (machine old.tables) old.settings piece host last earlier later outcome

  -- it is ended
  pub record TakesEnd (outcome : Outcome) : Type 0 where
    pub earlier : SessionValue
    pub later : SessionValue
    pub becomes : Becomes name old new earlier later
    pub ends : Ends step (machine old.tables) old.settings host last earlier later outcome
