use Rattle.std.proofs.Common.{arith}
use Rattle.rl_includes.proofs.CharacterLaws.{ends}
use Rattle.rl_includes.proofs.literal.characters.Goals as goal

pub returns : goal.returns
returns c = ends _ c.args.bytes.now c.loop-byte.found c.loop-byte.slash c.loop-byte.byte-index (omega arith) c.loop-byte.invariant
