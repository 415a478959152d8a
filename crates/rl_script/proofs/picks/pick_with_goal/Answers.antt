use Rattle.rl_script.proofs.PickLaws.{many_goals}
use Rattle.rl_script.proofs.picks.pick_with_goal.Goals as goal

pub returns-in-Some : goal.returns-in-Some
returns-in-Some c = many_goals c.args.number.now c.args.goal.now c.in-Some.field-0.0.now c.in-Some.field-0.1.now c.in-Some.ensures.parts
