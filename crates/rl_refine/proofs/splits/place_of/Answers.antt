use Rattle.std.proofs.Common.{rules, ◌≡◌, sym, ◌∙◌, true≢false}
use Rattle.rl_refine.proofs.LinkLaws.{on_behind}
use Rattle.rl_refine.specs.Splits.{StayTogether}
use Rattle.rl_refine.proofs.splits.place_of.Goals as goal

pub returns-then-next-eq0 : goal.returns-then-next-eq0
returns-then-next-eq0 c =
    let other : c.firsts.at ≡ c.args.state → ⊥ = search rules in
    let apart : StayTogether c.args.machine.now c.args.classes.now c.firsts.at c.args.state → ⊥ =
    λ s. true≢false (sym (c.stay_together.ensures.1 s) ∙ c.if-stay_together.false) in
    on_behind c.args.machine.now c.args.classes.now c.requires.coarse c.args.later.now c.args.state c.requires.there c.requires.linked c.firsts.at other c.firsts.invariant apart
    (sym c.class_in-next.ensures ∙ c.if-next-eq0.true)
