use Rattle.std.proofs.Common.{ap, ◌∙◌}
use Rattle.std.specs.Prelude.{unwrap_or}
use Rattle.std.specs.Map.{lookup}
use Rattle.std.specs.Str.{bytes_eq}
use Rattle.rl_names.proofs.TableLaws.{told_set}
use Rattle.rl_names.proofs.tables.set_count.Goals as goal

pub returns-in-Ok : goal.returns-in-Ok
returns-in-Ok c = λ x.
    ap (λ es. unwrap_or (lookup (λ k. bytes_eq x k.now) es) 0) c.in-Ok.ensures.entries
    ∙ told_set 0 x c.args.machine c.args.count c.args.table.now.entries
