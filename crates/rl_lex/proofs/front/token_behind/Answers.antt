use Rattle.std.proofs.Common.{◌≡◌, ℕ, List, false, Some, None, sym, subst}
use Rattle.rl_arrays.specs.Names.{is_letter, is_digit}
use Rattle.rl_lexical.specs.Fronts.{opened}
use Rattle.rl_lex.specs.Longest.{Finds, FindsSign}
use Rattle.rl_lex.proofs.PieceLaws.{piece_is_longest}
use Rattle.rl_lex.proofs.SignLaws.{sign_found}
use Rattle.rl_lex.proofs.front.token_behind.Goals as goal

pub returns-then-is_letter : goal.returns-then-is_letter
returns-then-is_letter c = c.word.ensures c.args.context

pub returns-then-is_digit : goal.returns-then-is_digit
returns-then-is_digit c = c.integer.ensures c.args.context

pub returns-in-Some : goal.returns-in-Some
returns-in-Some c =
    let no_letter : is_letter c.args.first ≡ false = cc in
    let no_digit : is_digit c.args.first ≡ false = cc in
    let opens : opened c.args.context c.args.first ≡ Some (c.in-Some.kind, c.in-Some.mode) = cc in
    let P : List ℕ → Type 0 = λ text. Finds c.args.context text c.piece.result in
    subst P (sym c.requires.parts)
    (piece_is_longest c.args.context c.args.first c.args.rest.now c.in-Some.kind c.in-Some.mode no_letter no_digit opens c.piece.result c.piece.ensures)

pub returns-in-None : goal.returns-in-None
returns-in-None c =
    let no_letter : is_letter c.args.first ≡ false = cc in
    let no_digit : is_digit c.args.first ≡ false = cc in
    let no_piece : opened c.args.context c.args.first ≡ None = cc in
    let P : List ℕ → Type 0 = λ text. Finds c.args.context text c.sign.result in
    let Q : List ℕ → Type 0 = λ text. FindsSign c.args.context.in_scanner text c.sign.result in
    subst P (sym c.requires.parts)
    (sign_found c.args.context c.args.first c.args.rest.now no_letter no_digit no_piece c.sign.result (subst Q c.requires.parts c.sign.ensures))
