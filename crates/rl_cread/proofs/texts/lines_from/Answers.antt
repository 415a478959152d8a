use Rattle.rl_cread.proofs.Rests.{rest_from}
use Rattle.rl_cread.proofs.texts.lines_from.Goals as goal

pub returns-then-from-lines : goal.returns-then-from-lines
returns-then-from-lines c = rest_from c.args.lines.now c.args.from
