use Rattle.std.proofs.Common.{ℕ, List, sym, subst, arith}
use Rattle.rl_lex.specs.Longest.{NoToken}
use Rattle.rl_lex.proofs.KindLaws.{nothing_left, empty_text}
use Rattle.rl_lex.proofs.front.longest.Goals as goal

pub returns-in-empty : goal.returns-in-empty
returns-in-empty c =
    let P : List ℕ → Type 0 = λ text. NoToken c.args.context text in
    subst P (sym (empty_text c.args.text.now (omega (arith, c.in-empty.len_below)))) (nothing_left c.args.context)
