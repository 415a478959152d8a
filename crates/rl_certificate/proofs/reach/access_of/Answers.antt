use Rattle.rl_certificate.proofs.SearchEdges.{found_there, found_none}
use Rattle.rl_certificate.proofs.reach.access_of.Goals as goal

pub unreachable-requires : goal.unreachable-requires
unreachable-requires c = found_none c.args.met.now c.args.state c.find_access.result c.in-None.is c.find_access.ensures c.requires

pub returns-clause-there : goal.returns-clause-there
returns-clause-there c = (found_there c.args.met.now c.args.state c.find_access.result c.in-Some.access c.in-Some.is c.find_access.ensures).0

pub returns-clause-leads : goal.returns-clause-leads
returns-clause-leads c = (found_there c.args.met.now c.args.state c.find_access.result c.in-Some.access c.in-Some.is c.find_access.ensures).1
