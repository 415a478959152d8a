use Rattle.std.proofs.Common.{◌∙◌}
use Rattle.rl_fsm.specs.Roots.{token_list_at}
use Rattle.rl_reach.proofs.StateLaws.{numbers_tell}
use Rattle.rl_reach.proofs.states.token_of.Goals as goal

pub returns : goal.returns
returns c =
    let numbers = token_list_at c.args.root.now c.args.place.entry c.args.place.state in
    c.from_vec.ensures ∙ c.in_ok-list.ensures ∙ numbers_tell c.token_list.result.now numbers c.token_list.ensures
