use Rattle.std.proofs.Common.{map, ap, ◌∙◌}
use Rattle.std.specs.Prelude.{not}
use Rattle.rl_names.specs.TableForms.{Text}
use Rattle.rl_names.proofs.TableLaws.{any_text, text_more}
use Rattle.rl_names.proofs.texts.put.Goals as goal

pub returns-in-Ok : goal.returns-in-Ok
returns-in-Ok c = (
  c.in-Ok.ensures.added ∙ ap not (any_text c.args.text.now c.args.table.now.keys),
  ap (map (λ (k : Text). k.now)) c.in-Ok.ensures.keys ∙ text_more c.args.text c.args.table.now.keys,
)
