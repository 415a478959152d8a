use Rattle.rl_model.specs.declared.spec.Entry as rust
use Rattle.rl_form.specs.Texts.{texts}
use Rattle.rl_form.proofs.Apart.{goes_on, ends}
use Rattle.rl_form.proofs.differ.do_entries_differ.Goals as goal

pub returns-then-not-is_new : goal.returns-then-not-is_new
returns-then-not-is_new c =
    ends (λ (e : rust.Entry). e.name) (texts c.loop-e.names) c.args.entries.now c.loop-e.e-index c.e-item.result c.loop-e-test.true c.e-item.is (c.in_ok-is_new.ensures.known c.if-not-is_new.true) c.loop-e.invariant.found

pub loop-e-preserved : goal.loop-e-preserved
loop-e-preserved c =
    let new = c.in_ok-is_new.ensures.new c.if-not-is_new.false in
    let noted = c.in_ok-is_new.ensures.noted c.if-not-is_new.false in
    let p = goes_on (λ (e : rust.Entry). e.name) (texts c.loop-e.names) c.args.entries.now c.loop-e.e-index c.e-item.result (texts c.note.new.set) c.loop-e-test.true c.e-item.is new noted c.loop-e.invariant.apart c.loop-e.invariant.found in
    record { apart = p.0; found = p.1 }
