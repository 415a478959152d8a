use Rattle.std.proofs.Common.{arith}
use Rattle.rl_leaves.proofs.TextLaws.{ends}
use Rattle.rl_leaves.proofs.text.characters.Goals as goal

pub returns : goal.returns
returns c = ends _ c.args.bytes.now c.loop-byte.found c.loop-byte.slash c.loop-byte.byte-index (omega arith) c.loop-byte.invariant
