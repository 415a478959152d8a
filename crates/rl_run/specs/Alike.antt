-- Two machines that make the same runs, and end in states that stand for each other.
use Rattle.std.specs.Prelude.{◌≡◌, ℕ, Bool, List, map}
use Rattle.std.specs.Option.{option_map}
use Rattle.rl_run.specs.declared.calls.Answer.{Answer}
use Rattle.std.specs.List.{AllZip}
use Rattle.rl_run.specs.Twin.{CallR}
use Rattle.rl_run.specs.declared.sessions.Settings.{Settings}
use Rattle.rl_run.specs.Machine.{Machine, fresh}
use Rattle.rl_run.specs.Play.{Reached, ended, stands, run}
use Rattle.rl_run.specs.Run.{Input, Rest}
use Rattle.rl_run.specs.Chain.{run_on}
use Rattle.rl_run.specs.Verdict.{verdict_of}

module _ {S T : Type 0} (m : Machine S) (w : Machine T) (ρ : ℕ → ℕ) (R : S → T → Type 0) where
  -- the same outcome, positions and verdict; the states, and those on the stacks, stand for each other
  pub record EndsAlike (a : Rest S) (b : Rest T) : Type 0 where
    pub outcome : b.outcome ≡ a.outcome
    pub state : R a.session.state b.session.state
    pub stack : AllZip R a.session.stack b.session.stack
    pub next : b.session.next ≡ a.session.next
    pub ts : b.session.ts ≡ a.session.ts
    pub te : b.session.te ≡ a.session.te
    pub kept : b.session.kept ≡ option_map (map ρ) a.session.kept
    pub furthest : b.session.furthest ≡ a.session.furthest
    pub backs : b.session.backs ≡ a.session.backs
    pub verdict : verdict_of w b ≡ verdict_of m a

  abbrev pub ReachAlike : Reached (Rest S) → Reached (Rest T) → Type 0
  ReachAlike (ended a) (ended b) = EndsAlike a b
  ReachAlike (stands p) (stands q) = Unit {0}
  ReachAlike (ended a) (stands q) = ⊥
  ReachAlike (stands p) (ended b) = ⊥

  -- from each entry, with the same answers, the same calls but for numbers of actions, and ends alike
  abbrev pub MakeSameRuns : Type 0
  MakeSameRuns = (is_broken_off : Bool) (settings : Settings) (input : Input) (e : ℕ) (answers : List Answer) →
      AllZip (CallR m w ρ) (run (run_on is_broken_off m settings input (fresh (m.entry e))) answers).calls (run (run_on is_broken_off w settings input (fresh (w.entry e))) answers).calls
      × ReachAlike (run (run_on is_broken_off m settings input (fresh (m.entry e))) answers).reached (run (run_on is_broken_off w settings input (fresh (w.entry e))) answers).reached
