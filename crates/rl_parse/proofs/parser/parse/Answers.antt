use Rattle.rl_parse.specs.Parse.{IsUnfinished}
use Rattle.rl_parse.proofs.Whole.{never_unfinished}
use Rattle.rl_parse.proofs.parser.parse.Goals as goal

pub unreachable-requires : goal.unreachable-requires
unreachable-requires c = let u : IsUnfinished c.args.tokens.now = rw c.in-Err-Unfinished.field-0-is at c.in-Err-Unfinished.ensures.refused in never_unfinished c.args.tokens.now c.requires.ended u
