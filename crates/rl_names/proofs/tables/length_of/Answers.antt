use Rattle.std.proofs.Common.{sym, ◌∙◌}
use Rattle.std.proofs.lemmas.List.{length-map}
use Rattle.rl_names.proofs.TableLaws.{shape}
use Rattle.rl_names.proofs.tables.length_of.Goals as goal

pub returns : goal.returns
returns c = c.len.ensures.len ∙ sym (length-map c.args.table.now.entries shape)
