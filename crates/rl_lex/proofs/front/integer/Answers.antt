use Rattle.std.proofs.Common.{◌≡◌, ◌<◌, ℕ, sym, subst, arith}
use Rattle.rl_grammar.specs.declared.token.TokenKind.TheVariants.{Integer}
use Rattle.rl_lex.specs.Integers.{hexadecimal_len}
use Rattle.rl_lex.specs.Longest.{IsLongest}
use Rattle.rl_lex.proofs.IntegerLaws.{longest_hexadecimal, longest_decimal}
use Rattle.rl_lex.proofs.front.integer.Goals as goal

pub returns-then-len-gt0 : goal.returns-then-len-gt0
returns-then-len-gt0 c = λ context.
    let some : 0 < hexadecimal_len c.args.text.now = omega (arith, c.hexadecimal_len-len.ensures) in
    let P : ℕ → Type 0 = λ n. IsLongest context c.args.text.now Integer n in
    subst P (sym c.hexadecimal_len-len.ensures) (longest_hexadecimal context c.args.text.now some)

pub returns-else-len-gt0 : goal.returns-else-len-gt0
returns-else-len-gt0 c = λ context.
    let none : hexadecimal_len c.args.text.now ≡ 0 = omega (arith, c.hexadecimal_len-len.ensures) in
    let P : ℕ → Type 0 = λ n. IsLongest context c.args.text.now Integer n in
    subst P (sym c.digits_len.ensures.value) (longest_decimal context c.args.text.now c.requires.letter c.requires.digit none)
