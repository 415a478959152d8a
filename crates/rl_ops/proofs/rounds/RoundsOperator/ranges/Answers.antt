use Rattle.std.proofs.Common.{◌∙◌, List, sym, ap, subst}
use Rattle.rl_types.specs.KeyRange.{Range}
use Rattle.rl_automata.specs.Auto.{star_auto, star_jams}
use Rattle.rl_fsm.specs.Graphs.{fsm_auto}
use Rattle.rl_explore.specs.Ranges.{AreRanges}
use Rattle.rl_ops.specs.Ranges.{rounds_ranges}
use Rattle.rl_ops.proofs.RangeLaws.{rounds_are}
use Rattle.rl_ops.proofs.rounds.RoundsOperator.ranges.Goals as goal

pub returns : goal.returns
returns c =
    let a = c.args.self.now.a.now in
    let base = c.args.self.now.base in
    subst (λ (v : List Range). AreRanges (star_auto (fsm_auto a) base) (star_jams (fsm_auto a) base) c.args.c.now v)
    (sym (c.in_ok-ranges.ensures ∙ ap (rounds_ranges a) c.states.ensures)) (rounds_are a base c.args.c.now)
