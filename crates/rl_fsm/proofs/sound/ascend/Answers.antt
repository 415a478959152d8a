use Rattle.std.proofs.Common.{◌≤◌, ◌∙◌, length, sym, arith}
use Rattle.rl_fsm.proofs.Ascending.{ascend_done}
use Rattle.rl_fsm.proofs.sound.ascend.Goals as goal

pub returns : goal.returns
returns c =
    let end : length c.args.edges.now ≤ c.pairs.i = omega arith in
    sym (c.pairs.invariant.rest ∙ ascend_done c.args.edges.now c.pairs.i c.pairs.invariant.place end)
