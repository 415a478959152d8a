use Rattle.rl_model.specs.declared.spec.ActionDef as rust
use Rattle.rl_form.specs.Texts.{texts}
use Rattle.rl_form.proofs.Apart.{goes_on, ends}
use Rattle.rl_form.proofs.differ.do_actions_differ.Goals as goal

pub returns-then-not-is_new : goal.returns-then-not-is_new
returns-then-not-is_new c =
    ends (λ (a : rust.ActionDef). a.name) (texts c.loop-a.names) c.args.actions.now c.loop-a.a-index c.a-item.result c.loop-a-test.true c.a-item.is (c.in_ok-is_new.ensures.known c.if-not-is_new.true) c.loop-a.invariant.found

pub loop-a-preserved : goal.loop-a-preserved
loop-a-preserved c =
    let new = c.in_ok-is_new.ensures.new c.if-not-is_new.false in
    let noted = c.in_ok-is_new.ensures.noted c.if-not-is_new.false in
    let p = goes_on (λ (a : rust.ActionDef). a.name) (texts c.loop-a.names) c.args.actions.now c.loop-a.a-index c.a-item.result (texts c.note.new.set) c.loop-a-test.true c.a-item.is new noted c.loop-a.invariant.apart c.loop-a.invariant.found in
    record { apart = p.0; found = p.1 }
