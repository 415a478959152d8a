use Rattle.std.proofs.Common.{map, ap, ◌∙◌}
use Rattle.rl_names.proofs.TableLaws.{shape, defined_more}
use Rattle.rl_names.proofs.tables.define.Goals as goal

pub returns-in-Ok : goal.returns-in-Ok
returns-in-Ok g c = ap (map shape) c.in-Ok.ensures.entries ∙ defined_more (c.args.machine, c.args.name) c.args.said c.args.table.now.entries c.requires
