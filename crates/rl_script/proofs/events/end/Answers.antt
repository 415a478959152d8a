use Rattle.rl_script.proofs.EventLaws.{ends_with_more}
use Rattle.rl_script.proofs.events.end.Goals as goal

pub returns-in-Some : goal.returns-in-Some
returns-in-Some c = ends_with_more c.args.text.now c.in-Some.field-0.0.now c.in-Some.field-0.1.now c.in-Some.ensures.parts
