use Rattle.std.proofs.Common.{◌<◌, ◌≤◌, ◌+◌, ◌*◌, length, get_or, arith}
use Rattle.std.specs.Char.{digit_value}
use Rattle.std.specs.Str.Parse.{digits_value}
use Rattle.rl_leaves.proofs.NumberLaws.{fits}
use Rattle.rl_leaves.proofs.number.digits_value.Goals as goal

pub overflow_mul-value : goal.overflow_mul-value
overflow_mul-value c =
    let l : c.loop-b.b-index < length c.args.digits.now = omega (arith, c.loop-b-test.true) in
    let e : c.loop-b.value * c.args.radix + digit_value (get_or c.args.digits.now c.loop-b.b-index 0) ≤ digits_value c.args.radix c.args.digits.now =
    fits c.args.radix c.loop-b.value c.args.digits.now c.loop-b.b-index _ c.requires.some l c.loop-b.invariant in
    omega (arith, e, c.requires.fits)

pub overflow_add-value : goal.overflow_add-value
overflow_add-value c =
    let l : c.loop-b.b-index < length c.args.digits.now = omega (arith, c.loop-b-test.true) in
    let e : c.loop-b.value * c.args.radix + digit_value (get_or c.args.digits.now c.loop-b.b-index 0) ≤ digits_value c.args.radix c.args.digits.now =
    fits c.args.radix c.loop-b.value c.args.digits.now c.loop-b.b-index _ c.requires.some l c.loop-b.invariant in
    omega (arith, e, c.requires.fits, c.digit_value.ensures.value)
