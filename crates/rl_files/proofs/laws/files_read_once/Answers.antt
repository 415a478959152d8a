use Rattle.rl_files.proofs.FileOnce.{reads_once}
use Rattle.rl_files.proofs.laws.files_read_once.Goals as goal

pub returns : goal.returns
returns c = reads_once
