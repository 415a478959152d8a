use Rattle.std.proofs.Common.{List, sym, subst, false}
use Rattle.rl_types.specs.KeyRange.{Range}
use Rattle.rl_explore.specs.Ranges.{AreRanges}
use Rattle.rl_ops.specs.Live.{only_marked}
use Rattle.rl_ops.proofs.RangeLaws.{pruned_are}
use Rattle.rl_ops.proofs.prune.PrunedOperator.ranges.Goals as goal

pub returns : goal.returns
returns c =
    let m = c.args.self.now.m.now in
    let live = c.args.self.now.live.now in
    subst (λ (v : List Range). AreRanges (only_marked m live) (λ c l. false) c.args.c.now v) (sym c.in_ok-ranges.ensures) (pruned_are m live c.args.c.now)
