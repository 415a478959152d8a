use Rattle.rl_includes.proofs.QueueLaws.{queue_more}
use Rattle.rl_includes.proofs.queue.queue_of.Goals as goal

pub loop-tree-preserved : goal.loop-tree-preserved
loop-tree-preserved c =
    queue_more _ c.loop-tree.queue c.put.new.queue _ _ c.in-Some.tree _ c.in-Some.ensures c.len.ensures c.in_ok-put.ensures c.loop-tree.invariant
