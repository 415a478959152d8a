use Rattle.std.proofs.Common.{rules, of_calls, MutBor, true, ap, sym, subst, ◌∙◌}
use Rattle.rl_stream.specs.declared.log.Log.{Log}
use Rattle.rl_stream.specs.Stands.{TakesLast, Taken}
use Rattle.rl_stream.proofs.Steps.{end_taken_by}
use Rattle.rl_stream.proofs.session.take_end.Goals as goal

pub returns-clause-taken : goal.returns-clause-taken
returns-clause-taken c = λ room. record {
  taken = λ a settings entry bytes written small st.
      let r = end_taken_by a settings entry {H = record { 0 : MutBor Log }} _ (λ h. h.0.now) (λ h. h.0.ghost_name)
      (λ h k x g s. search (of_calls, rules)) (λ h k x g s. search (of_calls, rules)) _ _ bytes written c.args.was_over _ _ st c.args.name.now c.requires.named _ small
      c.in-Ok.ensures.ended in
      let e = c.log-1.given.1 (sym r.0) in
      subst (λ (last : Log). Taken a settings entry bytes written c.args.was_over true c.in-Ok.outcome last c.end-taken.new.self) (sym e)
      (r.1 (ap (λ (l : Log). l.is_full) (sym e) ∙ room));
}
