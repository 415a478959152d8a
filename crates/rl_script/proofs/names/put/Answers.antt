use Rattle.std.proofs.Common.{ap, ◌∙◌}
use Rattle.std.specs.List.{list_any}
use Rattle.std.specs.Str.{bytes_eq}
use Rattle.rl_script.specs.NameTables.{Text}
use Rattle.rl_script.proofs.NameLaws.{name_more}
use Rattle.rl_script.proofs.names.put.Goals as goal

pub returns-in-Ok : goal.returns-in-Ok
returns-in-Ok c = (
  c.in-Ok.ensures.added,
  λ other. ap (list_any (λ (key : Text). bytes_eq other key.now)) c.in-Ok.ensures.keys ∙ name_more c.args.table.now.keys c.args.name other,
)
