use Rattle.std.proofs.Common.{arith}
use Rattle.rl_rewrite.proofs.CutLaws.{sizes_next}
use Rattle.rl_rewrite.proofs.sizes.table.Goals as goal

pub loop-i-preserved : goal.loop-i-preserved
loop-i-preserved c = (
  omega arith,
  sizes_next c.args.alphabet c.args.definitions.now c.before-earlier.result.now c.loop-i.sizes c.push.new.self c.value_of-s.result c.loop-i.i c.index-definitions-i.result
      c.loop-i.invariant.1 (omega arith) c.index-definitions-i.is c.before-earlier.ensures c.value_of-s.ensures c.in_ok-push.ensures.ok,
)
