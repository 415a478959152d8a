-- What is seen of a run: its calls with their names, and its end.
use Rattle.std.specs.Prelude.{ℕ, true, false, List, map, Option, Some, None}
use Rattle.rl_run.specs.declared.calls.Call.{Call}
use Rattle.rl_run.specs.declared.calls.Answer.{Answer}
use Rattle.rl_run.specs.declared.calls.Outcome.{Outcome}
use Rattle.rl_run.specs.declared.calls.Verdict.{Verdict}
use Rattle.rl_run.specs.declared.sessions.Settings.{Settings}
use Rattle.rl_run.specs.Machine.{Machine, fresh}
use Rattle.rl_run.specs.Play.{Log, Reached, ended, stands, run}
use Rattle.rl_run.specs.Run.{Rest, input_at}
use Rattle.rl_run.specs.Chain.{run_on}
use Rattle.rl_run.specs.Twin.{name_of}
use Rattle.rl_run.specs.Verdict.{verdict_of}

-- how a run came to its end, with the next position and the verdict
pub record End : Type 0 where
  pub outcome : Outcome
  pub next : ℕ
  pub verdict : Verdict

-- the calls, each with the name of what is called, and the end; none where there were not enough answers
pub record Seen : Type 0 where
  pub calls : List (List ℕ × Call)
  pub end : Option End

module _ {S : Type 0} (m : Machine S) where
  abbrev pub end_seen : Reached (Rest S) → Option End
  end_seen (stands p) = None
  end_seen (ended r) = elim r.outcome [
    | None ↦ None
    | Some outcome ↦ Some (record { outcome = outcome; next = r.session.next; verdict = verdict_of m r })
  ]

  abbrev pub log_seen : Log (Rest S) → Seen
  log_seen log = record { calls = map (λ c. (name_of m c, c)) log.calls; end = end_seen log.reached }

  -- a whole input, from an entry on, with these answers
  abbrev pub seen : Settings → ℕ → List ℕ → List Answer → Seen
  seen settings e bytes answers =
      log_seen (run (run_on false m settings (input_at m.width 0 bytes true) (fresh (m.entry e))) answers)
