use Rattle.std.proofs.Common.{false, ap, ◌∙◌}
use Rattle.std.specs.Prelude.{unwrap_or}
use Rattle.std.specs.Map.{lookup}
use Rattle.std.specs.Str.{bytes_eq}
use Rattle.rl_names.proofs.TableLaws.{told_set}
use Rattle.rl_resolve.proofs.instantiated.set_has.Goals as goal

pub returns-in-Ok : goal.returns-in-Ok
returns-in-Ok c = λ x.
    ap (λ es. unwrap_or (lookup (λ k. bytes_eq x k.now) es) false) c.in-Ok.ensures.entries
    ∙ told_set false x c.args.machine c.args.has c.args.table.now.entries
