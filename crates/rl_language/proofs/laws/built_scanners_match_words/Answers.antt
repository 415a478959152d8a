use Rattle.rl_language.proofs.BuiltScanners.{built_finds}
use Rattle.rl_language.proofs.laws.built_scanners_match_words.Goals as goal

pub returns : goal.returns
returns c = built_finds
