use Rattle.std.proofs.Common.{ap, ◌∙◌}
use Rattle.std.specs.Prelude.{unwrap_or}
use Rattle.std.specs.Map.{lookup}
use Rattle.std.specs.Str.{bytes_eq}
use Rattle.rl_types.specs.declared.alphabet.Alphabet.TheVariants.{Char}
use Rattle.rl_names.proofs.TableLaws.{told_set}
use Rattle.rl_names.proofs.alphabets.set_alphabet.Goals as goal

pub returns-in-Ok : goal.returns-in-Ok
returns-in-Ok c = λ x.
    ap (λ es. unwrap_or (lookup (λ k. bytes_eq x k.now) es) Char) c.in-Ok.ensures.entries
    ∙ told_set Char x c.args.machine c.args.alphabet c.args.table.now.entries
