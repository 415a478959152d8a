use Rattle.rl_cexec.specs.Texts.{init_text}
use Rattle.rl_cexec.proofs.texts.written_init.Goals as goal

pub returns : goal.returns
unfolding init_text
returns c = c.written.ensures
