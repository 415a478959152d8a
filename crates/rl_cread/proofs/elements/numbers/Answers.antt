use Rattle.std.proofs.Common.{◌≡◌, ◌∙◌, ◌∷◌, ◌<◌, ap, arith, map, length}
use Rattle.std.specs.Fmt.{signed_decimal}
use Rattle.std.proofs.lemmas.Bool.Decides.{nat_tests}
use Rattle.rl_cread.specs.Contents.{IsPrintedNumber}
use Rattle.rl_cread.proofs.Lacking.{number_lacks}
use Rattle.rl_cread.proofs.Pieces.{cut, read_result}
use Rattle.rl_cread.proofs.elements.numbers.Goals as goal

pub returns : goal.returns
returns c =
    let some : 0 < length c.args.text.now = grind (arith, nat_tests, c.if-is_empty.ensures) in
    let are : map (λ p. p.now) c.deref-2.result.now ≡ cut (32 ∷ c.args.text.now) = ap (map (λ p. p.now)) c.deref-2.ensures.value ∙ c.in_ok-parts.ensures ∙ ap cut (c.deref.ensures.value ∙ c.in_ok-spaced.ensures) in
    read_result signed_decimal IsPrintedNumber c.args.text.now (map (λ p. p.now) c.deref-2.result.now) c.numbers_of.result are some number_lacks c.numbers_of.ensures
