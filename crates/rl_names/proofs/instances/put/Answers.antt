use Rattle.std.proofs.Common.{map, ap, ◌∙◌}
use Rattle.std.specs.List.{list_any}
use Rattle.rl_names.specs.Names.{same}
use Rattle.rl_names.specs.TableForms.{named}
use Rattle.rl_names.proofs.EntryLaws.{named_put}
use Rattle.rl_names.proofs.instances.put.Goals as goal

pub returns-in-Ok : goal.returns-in-Ok
returns-in-Ok c = λ m n. ap (λ ks. list_any (same (m, n)) (map named ks)) c.in-Ok.ensures.keys ∙ named_put (m, n) (c.args.machine, c.args.name) c.args.instances.now.keys
