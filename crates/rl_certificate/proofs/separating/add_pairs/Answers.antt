use Rattle.std.proofs.Common.{◌+◌, ◌<◌, ◌≤◌, length, rules, subst, sym}
use Rattle.rl_certificate.specs.Founds.{ArePairs}
use Rattle.rl_certificate.proofs.PairLaws.{pair_more, row_done}
use Rattle.rl_certificate.proofs.separating.add_pairs.Goals as goal

pub loop-high-preserved : goal.loop-high-preserved
loop-high-preserved c =
    let below : c.loop-high.high < length c.args.min.now.states = subst (λ n. c.loop-high.high < n) c.states-states.ensures.count c.loop-high-test.true in
    subst (λ apart. ArePairs c.args.min.now apart c.args.low (c.loop-high.high + 1)) (sym c.in_ok-push.ensures)
    (pair_more c.args.min.now c.loop-high.apart.items c.args.low c.loop-high.high c.in_ok-pair.pair
    c.loop-high.invariant below c.in_ok-pair.ensures.low c.in_ok-pair.ensures.high c.in_ok-pair.ensures.first)

pub returns : goal.returns
returns c =
    let past : length c.args.min.now.states ≤ c.loop-high.high = subst (λ n. n ≤ c.loop-high.high) c.states-states.ensures.count (search rules) in
    row_done c.args.min.now c.loop-high.apart.items c.args.low c.loop-high.high c.loop-high.invariant past c.requires.there
