use Rattle.std.proofs.Common.{◌+◌, ◌*◌, ◌<◌, length, ap, arith}
use Rattle.rl_names.proofs.DigitLaws.{too_large}
use Rattle.rl_names.proofs.numbers.fits_in.Goals as goal

pub returns-then-value-gt-MOST : goal.returns-then-value-gt-MOST
returns-then-value-gt-MOST c =
    let l : c.loop-b.b-index < length c.args.digits.now = omega (arith, c.loop-b-test.true) in
    too_large c.args.radix c.loop-b.value c.args.digits.now c.loop-b.b-index (c.loop-b.value * c.args.radix + c.digit_value.result) _ c.requires.some l
    c.loop-b.invariant.value
    (ap (λ z. c.loop-b.value * c.args.radix + z) c.digit_value.ensures.value) c.if-value-gt-MOST.true
