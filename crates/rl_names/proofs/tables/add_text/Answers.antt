use Rattle.std.proofs.Common.{map, ap, ◌∙◌}
use Rattle.rl_names.specs.TableForms.{Text}
use Rattle.rl_names.proofs.TableLaws.{text_more, text_new}
use Rattle.rl_names.proofs.tables.add_text.Goals as goal

pub returns-in-Ok : goal.returns-in-Ok
returns-in-Ok c =
    ap (map (λ (k : Text). k.now)) c.in-Ok.ensures.keys
    ∙ (text_more c.args.text c.args.table.now.keys ∙ text_new (map (λ (k : Text). k.now) c.args.table.now.keys) c.args.text.now c.requires)
