use Rattle.rl_script.proofs.NumberLaws.{too_many}
use Rattle.rl_script.proofs.numbers.value_of.Goals as goal

pub returns-in_err-n : goal.returns-in_err-n
returns-in_err-n c =
    rw c.from_residual.ensures
    (too_many c.args.word.now c.loop-digit.n c.loop-digit.digit-index 18446744073709551616 c.loop-digit-test.true c.loop-digit.invariant c.in_err-n.ensures)
