use Rattle.std.proofs.Common.{refl}
use Rattle.rl_build.proofs.ChainLaws.{sums_first}
use Rattle.rl_build.proofs.chain.first_sums.Goals as goal

pub returns : goal.returns
returns c = λ alphabet states t fit x. sums_first alphabet states t _ c.args.operand.now fit x c.in_ok-cells.ensures refl
