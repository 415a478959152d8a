-- Twins make the same runs.
use Rattle.std.proofs.Common.{ℕ, suc, Bool, [], sym, ◌∙◌, ap, subst}
use Rattle.std.specs.List.{AllZip}
use Rattle.rl_run.specs.declared.sessions.Settings.{Settings}
use Rattle.rl_run.specs.Machine.{Machine, fresh}
use Rattle.rl_run.specs.Play.{Reached, ended, stands, run}
use Rattle.rl_run.specs.Run.{Input, Rest}
use Rattle.rl_run.specs.Fine.{weight, tail_weight}
use Rattle.rl_run.specs.Chain.{run_on}
use Rattle.rl_run.specs.Verdict.{verdict_by, verdict_of}
use Rattle.rl_run.specs.Twin.{IsTwin, CallR}
use Rattle.rl_run.proofs.Twins.{turns_r, log_r, PlayR, RestR, ReachedR}
use Rattle.rl_run.specs.Alike.{EndsAlike, ReachAlike, MakeSameRuns}

module _ {S T : Type 0} (m : Machine S) (w : Machine T) (ρ : ℕ → ℕ) (R : S → T → Type 0) (twin : IsTwin m w ρ R) where
  pub plays_alike : (b : Bool) (settings : Settings) (input : Input) (e : ℕ) →
      PlayR (CallR m w ρ) (RestR m w ρ R twin settings) (run_on b m settings input (fresh (m.entry e))) (run_on b w settings input (fresh (w.entry e)))
  unfolding run_on weight tail_weight
  plays_alike b settings input e = turns_r m w ρ R twin settings b input (suc (weight (fresh (m.entry e)))) (fresh (m.entry e)) (w.entry e) [] (twin.entry e) (tt, tt)

  pub rests_alike : (settings : Settings) (a : Rest S) (b : Rest T) → RestR m w ρ R twin settings a b → EndsAlike m w ρ R a b
  rests_alike settings a b (q, st, r, z, e) = record {
    outcome = ap (λ x. x.outcome) e;
    state = subst (λ x. R a.session.state x.session.state) (sym e) r;
    stack = subst (λ x. AllZip R a.session.stack x.session.stack) (sym e) z.0;
    next = ap (λ x. x.session.next) e;
    ts = ap (λ x. x.session.ts) e;
    te = ap (λ x. x.session.te) e;
    kept = ap (λ x. x.session.kept) e;
    furthest = ap (λ x. x.session.furthest) e;
    backs = ap (λ x. x.session.backs) e;
    verdict = ap (verdict_of w) e ∙ ap (verdict_by a.outcome) (twin.final a.session.state q r);
  }

  ends_alike : (settings : Settings) (x : Reached (Rest S)) (y : Reached (Rest T)) → ReachedR (CallR m w ρ) (RestR m w ρ R twin settings) x y → ReachAlike m w ρ R x y
  ends_alike settings (ended a) (ended b) h = rests_alike settings a b h
  ends_alike settings (stands p) (stands q) h = tt
  ends_alike settings (ended a) (stands q) h = absurd h
  ends_alike settings (stands p) (ended b) h = absurd h

  pub same_runs : MakeSameRuns m w ρ R
  same_runs b settings input e answers =
      let p = run_on b m settings input (fresh (m.entry e)) in
      let q = run_on b w settings input (fresh (w.entry e)) in
      let h = log_r (CallR m w ρ) (RestR m w ρ R twin settings) p q answers (plays_alike b settings input e) in
      (h.0, ends_alike settings (run p answers).reached (run q answers).reached h.1)
