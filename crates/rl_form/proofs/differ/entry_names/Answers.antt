use Rattle.rl_model.specs.declared.spec.Entry as rust
use Rattle.rl_form.specs.Texts.{texts}
use Rattle.rl_form.proofs.Apart.{is_put, follows}
use Rattle.rl_form.proofs.differ.entry_names.Goals as goal

pub loop-e-preserved : goal.loop-e-preserved
loop-e-preserved c =
    let put = is_put (λ (e : rust.Entry). e.name) (texts c.loop-e.names) c.args.entries.now c.loop-e.e-index c.e-item.result c.in_ok-_is_new._is_new c.loop-e-test.true c.e-item.is c.in_ok-_is_new.ensures.known c.loop-e.invariant c.requires in
    follows (λ (e : rust.Entry). e.name) (texts c.loop-e.names) c.args.entries.now c.loop-e.e-index c.e-item.result (texts c.note.new.set) c.loop-e-test.true c.e-item.is (c.in_ok-_is_new.ensures.noted put) c.loop-e.invariant
