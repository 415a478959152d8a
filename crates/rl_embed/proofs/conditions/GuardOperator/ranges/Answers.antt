use Rattle.std.proofs.Common.{List, sym, subst, false}
use Rattle.rl_types.specs.KeyRange.{Range}
use Rattle.rl_explore.specs.Ranges.{AreRanges}
use Rattle.rl_embed.specs.Guarded.{guarded_auto}
use Rattle.rl_embed.proofs.GuardLaws.{guard_are}
use Rattle.rl_embed.proofs.conditions.GuardOperator.ranges.Goals as goal

pub returns : goal.returns
returns c =
    let g = c.args.self.now in
    subst (λ (v : List Range). AreRanges (guarded_auto g.cond.0 g.machine.now) (λ j l. false) c.args.c.now v) (sym c.in_ok-ranges.ensures) (guard_are g.cond.0 g.machine.now c.args.c.now)
