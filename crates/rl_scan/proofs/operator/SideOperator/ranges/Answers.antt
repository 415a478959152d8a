use Rattle.std.proofs.Common.{◌∙◌, List, sym, ap, subst}
use Rattle.rl_types.specs.KeyRange.{Range}
use Rattle.rl_explore.specs.Ranges.{AreRanges}
use Rattle.rl_scan.specs.Beside.{side_auto, side_jams, all_ranges}
use Rattle.rl_scan.proofs.RangeLaws.{side_are}
use Rattle.rl_scan.proofs.operator.SideOperator.ranges.Goals as goal

pub returns : goal.returns
returns c =
    let ms = c.args.self.now.machines.now in
    subst (λ (v : List Range). AreRanges (side_auto ms) (side_jams ms) c.args.c.now v)
    (sym (c.in_ok-ranges.ensures ∙ ap (all_ranges ms) c.states.ensures)) (side_are ms c.args.c.now)
