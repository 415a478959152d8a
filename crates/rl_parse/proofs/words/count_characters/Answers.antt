use Rattle.std.proofs.Common.{length, ◌<◌, arith}
use Rattle.rl_parse.proofs.Texts.{count_more, none_left}
use Rattle.rl_parse.proofs.words.count_characters.Goals as goal

pub loop-at-preserved : goal.loop-at-preserved
loop-at-preserved c =
    let body = c.args.body.now in
    let at = c.loop-at.at in
    let below : at < length body = c.loop-at-test.true in
    let more = count_more c.loop-at.slash body at 0 below in
    (rw (c.count_of-count.ensures.value, c.slash_after-slash.ensures) (omega (arith, c.loop-at.invariant.0, more)), omega (arith, c.loop-at.invariant.1, c.count_of-count.ensures.bound))

pub returns : goal.returns
returns c =
    let none = none_left c.loop-at.slash c.args.body.now c.loop-at.at c.loop-at-test.false in
    omega (arith, c.loop-at.invariant.0, none)
