use Rattle.std.proofs.Common.{take}
use Rattle.std.specs.List.{AllByRecursion}
use Rattle.rl_cread.specs.Contents.{content, AreNumbers}
use Rattle.rl_cdata.proofs.fits.each_fits.Given as goal

abbrev pub invariant-loop-array : goal.invariant-loop-array
invariant-loop-array l = AllByRecursion (λ array. AreNumbers (content l.a array)) (take l.array-index l.arrays)
