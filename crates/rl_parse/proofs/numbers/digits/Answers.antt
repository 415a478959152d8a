use Rattle.std.proofs.Common.{◌+◌, ◌*◌, drop, slice_index_or, sym, ◌∙◌, arith}
use Rattle.std.specs.Char.{digit_value}
use Rattle.rl_parse.proofs.DigitLaws.{digits_more, digits_least, no_digits}
use Rattle.rl_parse.proofs.numbers.digits.Goals as goal

pub returns : goal.returns
returns c = sym (c.loop-at.invariant ∙ no_digits c.args.radix c.loop-at.value c.args.text.now c.loop-at.at c.loop-at-test.false)

pub overflow_mul-value : goal.overflow_mul-value
overflow_mul-value c =
    let text = c.args.text.now in
    let value = c.loop-at.value in
    let at = c.loop-at.at in
    let more = digits_more c.args.radix value text at 0 c.loop-at-test.true in
    let least = digits_least c.args.radix (value * c.args.radix + digit_value (slice_index_or text at 0)) (drop (at + 1) text) c.requires.radix in
    omega (arith, c.loop-at.invariant, more, least, c.requires.fits)

pub overflow_add-value : goal.overflow_add-value
overflow_add-value c =
    let text = c.args.text.now in
    let value = c.loop-at.value in
    let at = c.loop-at.at in
    let more = digits_more c.args.radix value text at 0 c.loop-at-test.true in
    let least = digits_least c.args.radix (value * c.args.radix + digit_value (slice_index_or text at 0)) (drop (at + 1) text) c.requires.radix in
    omega (arith, c.digit_value.ensures.value, c.loop-at.invariant, more, least, c.requires.fits)
