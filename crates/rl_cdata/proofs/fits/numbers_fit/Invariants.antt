use Rattle.std.proofs.Common.{take}
use Rattle.std.specs.List.{AllByRecursion}
use Rattle.rl_cread.specs.Contents.{IsPrintedNumber}
use Rattle.rl_cdata.proofs.fits.numbers_fit.Given as goal

abbrev pub invariant-loop-number : goal.invariant-loop-number
invariant-loop-number l = AllByRecursion IsPrintedNumber (take l.number-index l.numbers)
