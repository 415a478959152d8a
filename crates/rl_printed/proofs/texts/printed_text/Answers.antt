use Rattle.std.proofs.Common.{rules}
use Rattle.rl_printed.specs.Jobs.{all_jobs}
use Rattle.rl_printed.proofs.OrderLaws.{set_ascends}
use Rattle.rl_printed.proofs.texts.printed_text.Goals as goal

pub push_parts-requires : goal.push_parts-requires
push_parts-requires c = let k = set_ascends (all_jobs 0 c.args.specs.now) in search rules
