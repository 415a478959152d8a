-- An operand that no literal begins is read as one of the other kinds.
use Rattle.std.proofs.Common.{◌≡◌, ℕ, false, List, Result, Ok, Err, Option, ◌⊎◌, inr, refl}
use Rattle.rl_readers.specs.Readers.{◌>>=◌, sees}
use Rattle.rl_types.specs.declared.numbers.Place.{Place}
use Rattle.rl_grammar.specs.declared.syntax.Key.{Key}
use Rattle.rl_grammar.specs.declared.syntax.Number.{Number}
use Rattle.rl_grammar.specs.declared.syntax.Operand.{Operand}
use Rattle.rl_grammar.specs.declared.syntax.Scanner.{Scanner}
use Rattle.rl_grammar.specs.declared.syntax.Union.{Union}
use Rattle.rl_grammar.specs.declared.syntax.Word.{Word}
use Rattle.rl_grammar.specs.declared.token.Token.{Token}
use Rattle.rl_parse.specs.Reading.{Reader}
use Rattle.rl_parse.specs.Rules.{Choice, is_key, is_plain, operand, operand_of, other_operand, other_choice}

abbrev Others : Type 0
Others = (Number × Option (Place × Key)) ⊎ (Word ⊎ (Word ⊎ (Word ⊎ ((Place × (Union × Place)) ⊎ Scanner))))

abbrev as_inner : Others × List Token → Result ((Word ⊎ Others) × List Token) ℕ
as_inner x = Ok (inr x.0, x.1)

abbrev as_choice : (Word ⊎ Others) × List Token → Result (Choice × List Token) ℕ
as_choice x = Ok (inr x.0, x.1)

abbrev as_operand : Choice × List Token → Result (Operand × List Token) ℕ
as_operand x = Ok (operand_of x.0, x.1)

abbrev at_once : Others × List Token → Result (Operand × List Token) ℕ
at_once x = Ok (operand_of (inr (inr x.0)), x.1)

chained : (r : Result (Others × List Token) ℕ) → (((r >>= as_inner) >>= as_choice) >>= as_operand) ≡ (r >>= at_once)
chained (Ok x) = refl
chained (Err n) = refl

pub neither : (union : Reader Union) (ts : List Token) → sees is_key ts ≡ false → sees is_plain ts ≡ false → operand union ts ≡ other_operand union ts
unfolding operand other_operand
neither union ts no_key no_plain = rw no_key (rw no_plain (chained (other_choice union ts)))
