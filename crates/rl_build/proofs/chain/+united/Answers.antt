use Rattle.std.proofs.Common.{◌<◌, ◌/◌, length, arith}
use Rattle.rl_ops.proofs.StandsLaws.{if_ok_to}
use Rattle.rl_build.proofs.ChainLaws.{halves_united, split_whole}
use Rattle.rl_build.proofs.chain.+united.Goals as goal

pub returns : goal.returns
returns t c =
    let bs = c.args.operands.now in
    let ls = c.split_at.result.0.now in
    let rs = c.split_at.result.1.now in
    let left : 0 < length ls = omega (arith, c.split_at.ensures.front_len) in
    let right : 0 < length rs = omega (arith, c.split_at.ensures.back_len) in
    if_ok_to _ _ c.or.result
    (λ m f. halves_united ls rs bs c.in_ok-left.left c.in_ok-right.right m (split_whole bs ls rs (length bs / 2) c.split_at.ensures.front c.split_at.ensures.back) left right c.in_ok-left.ensures c.in_ok-right.ensures f)
    c.or.ensures.stands
