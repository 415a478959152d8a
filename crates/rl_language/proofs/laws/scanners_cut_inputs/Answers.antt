use Rattle.rl_language.proofs.Scripts.{script_cuts}
use Rattle.rl_language.proofs.TokenWords.{tree_cuts, alike_cuts, built_cuts}
use Rattle.rl_language.proofs.laws.scanners_cut_inputs.Goals as goal

pub returns-clause-trees : goal.returns-clause-trees
returns-clause-trees c = tree_cuts

pub returns-clause-alike : goal.returns-clause-alike
returns-clause-alike c = alike_cuts

pub returns-clause-built : goal.returns-clause-built
returns-clause-built c = built_cuts

pub returns-clause-replays : goal.returns-clause-replays
returns-clause-replays c = script_cuts
