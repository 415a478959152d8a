use Rattle.std.proofs.Common.{cond, [], sym, ap, ◌∙◌}
use Rattle.std.specs.Prelude.{unwrap_or}
use Rattle.std.specs.Map.{lookup}
use Rattle.std.specs.Str.{bytes_eq}
use Rattle.rl_names.specs.TableForms.{own_in}
use Rattle.rl_names.proofs.TableLaws.{told_set}
use Rattle.rl_names.proofs.groups.take_own.Goals as goal

pub returns-in-Ok-Some : goal.returns-in-Ok-Some
returns-in-Ok-Some c = (
  ap (λ z. unwrap_or z []) (sym c.in-Ok-Some.field-0-is ∙ c.in-Ok-Some.ensures.old),
  λ x.
      ap (λ es. unwrap_or (lookup (λ k. bytes_eq x k.now) es) []) c.in-Ok-Some.ensures.entries
      ∙ (told_set [] x c.args.machine c.new.result c.args.groups.now.entries
      ∙ ap (λ z. cond (bytes_eq x c.args.machine.now) z (own_in x c.args.groups.now)) c.new.ensures),
)

pub returns-in-Ok-None : goal.returns-in-Ok-None
returns-in-Ok-None c = (
  c.new-in-Ok-None.ensures ∙ ap (λ z. unwrap_or z []) (sym c.in-Ok-None.field-0-is ∙ c.in-Ok-None.ensures.old),
  λ x.
      ap (λ es. unwrap_or (lookup (λ k. bytes_eq x k.now) es) []) c.in-Ok-None.ensures.entries
      ∙ (told_set [] x c.args.machine c.new.result c.args.groups.now.entries
      ∙ ap (λ z. cond (bytes_eq x c.args.machine.now) z (own_in x c.args.groups.now)) c.new.ensures),
)
