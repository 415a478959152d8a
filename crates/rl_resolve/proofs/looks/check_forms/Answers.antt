use Rattle.std.proofs.Common.{◌≤◌, length, subst, arith}
use Rattle.std.specs.Prelude.{All}
use Rattle.std.proofs.lemmas.List.{take_all}
use Rattle.std.proofs.lemmas.List.Elements.{All-more}
use Rattle.rl_resolve.specs.Answers.{IsFormed}
use Rattle.rl_resolve.proofs.looks.check_forms.Goals as goal

pub loop-spec-preserved : goal.loop-spec-preserved
loop-spec-preserved c =
    All-more IsFormed c.args.specs.now c.loop-spec.spec-index c.spec-item.result c.loop-spec-test.true c.loop-spec.invariant (subst IsFormed c.spec-item.is c.in_ok-check_form.ensures)

pub returns : goal.returns
returns c =
    let end : length c.args.specs.now ≤ c.loop-spec.spec-index = omega (arith, c.loop-spec-test.false) in
    subst (All IsFormed) (take_all c.loop-spec.spec-index c.args.specs.now end) c.loop-spec.invariant
