use Rattle.rl_cread.proofs.Marking.{no_mark}
use Rattle.rl_cread.proofs.texts.mark_in.Goals as goal

pub returns-in-None-name_in : goal.returns-in-None-name_in
returns-in-None-name_in c = no_mark c.args.line.now c.in-None.ensures c.in-None-name_in.ensures
