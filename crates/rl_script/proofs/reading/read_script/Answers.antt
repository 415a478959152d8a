use Rattle.rl_script.proofs.ReadingLaws.{script_small}
use Rattle.rl_script.proofs.reading.read_script.Goals as goal

pub returns-in-Ok-clause-small : goal.returns-in-Ok-clause-small
returns-in-Ok-clause-small c = script_small c.args.text.now c.in-Ok.lines c.in-Ok.ensures
