use Rattle.rl_reach.proofs.BreadthLaws.{numbered_by_letters}
use Rattle.rl_reach.proofs.laws.numbers_follow_letters.Goals as goal

pub returns : goal.returns
returns c entries alphabet context m is minimal begin = numbered_by_letters entries alphabet context m is minimal begin
