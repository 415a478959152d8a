use Rattle.std.proofs.Common.{List, sym, subst}
use Rattle.rl_types.specs.KeyRange.{Range}
use Rattle.rl_automata.specs.Auto.{both_auto, both_jams}
use Rattle.rl_fsm.specs.Graphs.{fsm_auto}
use Rattle.rl_explore.specs.Ranges.{AreRanges}
use Rattle.rl_ops.specs.Tests.{test_of}
use Rattle.rl_ops.proofs.RangeLaws.{pair_are}
use Rattle.rl_ops.proofs.pair.PairOperator.ranges.Goals as goal

pub returns : goal.returns
returns c =
    let a = c.args.self.now.a.now in
    let b = c.args.self.now.b.now in
    subst (λ (v : List Range). AreRanges (both_auto (fsm_auto a) (fsm_auto b) (test_of c.args.self.now.test)) (both_jams (fsm_auto a) (fsm_auto b)) c.args.c.now v)
    (sym c.in_ok-ranges.ensures) (pair_are a b (test_of c.args.self.now.test) c.args.c.now)
