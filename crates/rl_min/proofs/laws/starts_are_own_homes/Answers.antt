use Rattle.rl_min.proofs.HomeLaws.{own_home}
use Rattle.rl_min.proofs.laws.starts_are_own_homes.Goals as goal

pub returns : goal.returns
returns c entries m least i kind = own_home entries m least.machine i kind
