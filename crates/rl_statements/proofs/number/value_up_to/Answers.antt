use Rattle.std.proofs.Common.{◌+◌, ◌*◌, ◌<◌, ◌≤◌, length, ap, arith}
use Rattle.rl_statements.proofs.NumberLaws.{too_large}
use Rattle.rl_statements.proofs.number.value_up_to.Goals as goal

pub returns-then-value-limit : goal.returns-then-value-limit
returns-then-value-limit c =
    let l : c.loop-b.b-index < length c.args.digits.now = omega (arith, c.loop-b-test.true) in
    let ten : 1 ≤ 10 = omega arith in
    too_large 10 c.loop-b.value c.args.limit c.args.digits.now c.loop-b.b-index (c.loop-b.value * 10 + c.digit_value.result) _ ten l
    c.loop-b.invariant.value
    (ap (λ z. c.loop-b.value * 10 + z) c.digit_value.ensures.value) c.if-value-limit.true
