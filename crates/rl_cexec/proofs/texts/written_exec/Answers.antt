use Rattle.rl_cexec.specs.Texts.{exec_text}
use Rattle.rl_cexec.proofs.texts.written_exec.Goals as goal

pub returns : goal.returns
unfolding exec_text
returns c = c.written.ensures
