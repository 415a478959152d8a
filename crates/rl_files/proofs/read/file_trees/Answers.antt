use Rattle.std.proofs.Common.{sym, subst}
use Rattle.rl_files.specs.Blocks.{AllTokens}
use Rattle.rl_files.proofs.FileLaws.{file_holds}
use Rattle.rl_files.proofs.read.file_trees.Goals as goal

pub trees-requires : goal.trees-requires
trees-requires c = subst AllTokens (sym c.as_slice.ensures) (file_holds c.args.number c.args.text.now c.in_ok-blocks.blocks c.in_ok-blocks.ensures)
