use Rattle.std.proofs.Common.{map, arith}
use Rattle.rl_names.specs.Events.{seen, pattern_uses}
use Rattle.rl_names.proofs.EventLaws.{part_more}
use Rattle.rl_names.proofs.events.patterns.Goals as goal

pub loop-one-preserved : goal.loop-one-preserved
loop-one-preserved c =
    part_more pattern_uses c.args.all.now c.loop-one.one-index c.one-item.result (map seen c.loop-one.found.items) (map seen c.pattern.new.found.items) _ (omega arith) c.one-item.is c.in_ok-pattern.ensures c.loop-one.invariant
