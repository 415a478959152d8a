use Rattle.rl_script.proofs.PickLaws.{four_items}
use Rattle.rl_script.proofs.picks.are_at_most_four.Goals as goal

pub returns : goal.returns
returns c = four_items c.args.word.now c.commas_in.result c.commas_in.ensures
