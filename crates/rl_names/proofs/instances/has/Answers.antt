use Rattle.std.proofs.Common.{◌∙◌}
use Rattle.rl_names.proofs.TableLaws.{any_named}
use Rattle.rl_names.proofs.instances.has.Goals as goal

pub returns : goal.returns
returns c = c.contains.ensures ∙ any_named (c.args.machine.now, c.args.name.now) c.args.instances.now.keys
