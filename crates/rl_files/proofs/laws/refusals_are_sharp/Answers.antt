use Rattle.rl_files.proofs.FileOnce.{refusals_once, read_or_refused}
use Rattle.rl_files.proofs.laws.refusals_are_sharp.Goals as goal

pub returns : goal.returns
returns c = record { once = refusals_once; apart = read_or_refused }
