use Rattle.rl_language.proofs.Replays.{replay_tells}
use Rattle.rl_language.proofs.Scripts.{script_tells}
use Rattle.rl_language.proofs.laws.replays_tell_words.Goals as goal

pub returns-clause-whole : goal.returns-clause-whole
returns-clause-whole c = replay_tells

pub returns-clause-said : goal.returns-clause-said
returns-clause-said c = script_tells
