use Rattle.std.proofs.Common.{ap, ◌∙◌, ◌&&◌, ◌==◌}
use Rattle.std.specs.List.{list_any}
use Rattle.std.specs.Str.{bytes_eq}
use Rattle.rl_script.specs.NameTables.{Called}
use Rattle.rl_script.proofs.NameLaws.{call_more}
use Rattle.rl_script.proofs.names.put_call.Goals as goal

pub returns-in-Ok : goal.returns-in-Ok
returns-in-Ok c = (
  c.in-Ok.ensures.added,
  λ t other k. ap (list_any (λ (key : Called). bytes_eq t key.0.now && bytes_eq other key.1.now && k == key.2)) c.in-Ok.ensures.keys
      ∙ call_more c.args.table.now.keys (c.args.session, c.args.name, c.args.number) t other k,
)
