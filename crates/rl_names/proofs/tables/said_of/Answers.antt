use Rattle.std.proofs.Common.{◌∙◌}
use Rattle.rl_names.proofs.TableLaws.{lookup_named}
use Rattle.rl_names.proofs.tables.said_of.Goals as goal

pub returns-in-Some : goal.returns-in-Some
returns-in-Some g c = c.in-Some.ensures.value ∙ lookup_named (c.args.machine.now, c.args.name.now) c.args.table.now.entries

pub returns-in-None : goal.returns-in-None
returns-in-None g c = c.in-None.ensures.value ∙ lookup_named (c.args.machine.now, c.args.name.now) c.args.table.now.entries
