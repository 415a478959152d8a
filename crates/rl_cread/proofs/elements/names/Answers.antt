use Rattle.std.proofs.Common.{◌≡◌, ◌∙◌, ◌∷◌, ◌<◌, ap, arith, map, length}
use Rattle.std.proofs.lemmas.Bool.Decides.{nat_tests}
use Rattle.rl_arrays.specs.Section.{quoted}
use Rattle.rl_cread.specs.Contents.{IsPrintedName}
use Rattle.rl_cread.proofs.Lacking.{quoted_lacks}
use Rattle.rl_cread.proofs.Pieces.{cut, read_result}
use Rattle.rl_cread.proofs.elements.names.Goals as goal

pub returns : goal.returns
returns c =
    let some : 0 < length c.args.text.now = grind (arith, nat_tests, c.if-is_empty.ensures) in
    let are : map (λ p. p.now) c.deref-2.result.now ≡ cut (32 ∷ c.args.text.now) = ap (map (λ p. p.now)) c.deref-2.ensures.value ∙ c.in_ok-parts.ensures ∙ ap cut (c.deref.ensures.value ∙ c.in_ok-spaced.ensures) in
    read_result quoted IsPrintedName c.args.text.now (map (λ p. p.now) c.deref-2.result.now) c.names_of.result are some quoted_lacks c.names_of.ensures
