use Rattle.rl_min.proofs.FewerLaws.{fewest}
use Rattle.rl_min.proofs.laws.no_machine_has_fewer_states.Goals as goal

pub returns : goal.returns
returns c entries m least minimal other sound context alike = fewest entries m least minimal other sound context alike
