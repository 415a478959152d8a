use Rattle.std.proofs.Common.{arith}
use Rattle.std.proofs.lemmas.Result.{err_from_is_err_and}
use Rattle.rl_files.proofs.TreeLaws.{tokens_here, refused_here, trees_more}
use Rattle.rl_files.proofs.read.trees.Goals as goal

pub tree-requires : goal.tree-requires
tree-requires c = tokens_here c.args.blocks.now c.loop-block.block-index c.block-item.result c.requires (omega arith) c.block-item.is

pub returns-in_err-tree-clause-refused : goal.returns-in_err-tree-clause-refused
returns-in_err-tree-clause-refused c =
    let p = err_from_is_err_and c.from_residual.result c.from_residual.ensures.1 in
    rw (p.1, p.2)
    (refused_here c.args.blocks.now c.loop-block.block-index c.loop-block.found c.block-item.result c.in_err-tree.field-0.0 (omega arith) c.block-item.is c.loop-block.invariant c.in_err-tree.ensures.refused)

pub loop-block-preserved : goal.loop-block-preserved
loop-block-preserved c =
    rw c.in_ok-push.ensures
    (trees_more c.args.blocks.now c.loop-block.block-index c.loop-block.found c.block-item.result c.in_ok-tree.tree (omega arith) c.block-item.is c.loop-block.invariant c.in_ok-tree.ensures.read)
