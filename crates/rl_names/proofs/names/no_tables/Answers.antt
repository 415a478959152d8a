use Rattle.std.proofs.Common.{map, ap}
use Rattle.std.specs.Prelude.{unwrap_or}
use Rattle.std.specs.Map.{lookup}
use Rattle.std.specs.Str.{bytes_eq}
use Rattle.rl_names.specs.TableForms.{Text}
use Rattle.rl_names.proofs.TableLaws.{shape}
use Rattle.rl_names.proofs.names.no_tables.Goals as goal

pub returns-clause-known : goal.returns-clause-known
returns-clause-known c =
    (λ j. record { defined = map shape (c.new-defined.ensures.empty j); actions = map shape (c.new-actions.ensures.empty j); written = map (λ (k : Text). k.now) (c.new-written.ensures.empty j) })

pub returns-clause-counts : goal.returns-clause-counts
returns-clause-counts c = λ x. ap (λ es. unwrap_or (lookup (λ k. bytes_eq x k.now) es) 0) c.new-counts.ensures.empty
