use Rattle.std.proofs.Common.{◌≤◌, length, refl, subst, arith}
use Rattle.std.specs.Prelude.{All}
use Rattle.std.proofs.lemmas.List.{take_all}
use Rattle.std.proofs.lemmas.List.Elements.{All-more}
use Rattle.rl_code.specs.Reading.{IsReadAs}
use Rattle.rl_model.specs.declared.spec.ActionDef as rust
use Rattle.rl_form.specs.Texts.{texts}
use Rattle.rl_form.proofs.codes.are_read.Goals as goal

pub loop-a-preserved : goal.loop-a-preserved
loop-a-preserved c =
    let read = c.in_ok-is_read.ensures.0 c.if-not-is_read.false in
    let code = subst (λ z. IsReadAs (texts c.args.names.now) z c.as_slice.result.now) c.bytes.ensures read in
    let both = subst (λ z. IsReadAs (texts c.args.names.now) c.a-item.result.code z) c.as_slice.ensures code in
    All-more (λ (a : rust.ActionDef). IsReadAs (texts c.args.names.now) a.code a.statements) c.args.actions.now c.loop-a.a-index c.a-item.result c.loop-a-test.true c.loop-a.invariant
    (subst (λ (a : rust.ActionDef). IsReadAs (texts c.args.names.now) a.code a.statements) c.a-item.is both)

pub returns : goal.returns
returns c =
    let end : length c.args.actions.now ≤ c.loop-a.a-index = omega (arith, c.loop-a-test.false) in
    ((λ t. subst (All (λ (a : rust.ActionDef). IsReadAs (texts c.args.names.now) a.code a.statements)) (take_all c.loop-a.a-index c.args.actions.now end) c.loop-a.invariant), (λ h. refl))
