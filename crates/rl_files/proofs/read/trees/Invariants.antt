use Rattle.std.proofs.Common.{take}
use Rattle.rl_files.specs.Files.{AreTrees}
use Rattle.rl_files.proofs.read.trees.Given as goal

abbrev pub invariant-loop-block : goal.invariant-loop-block
invariant-loop-block l = AreTrees (take l.block-index l.blocks) l.found
