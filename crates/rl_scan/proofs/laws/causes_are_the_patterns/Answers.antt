use Rattle.rl_scan.proofs.CauseLaws.{scanner_causes}
use Rattle.rl_scan.proofs.laws.causes_are_the_patterns.Goals as goal

pub returns : goal.returns
returns c = scanner_causes
