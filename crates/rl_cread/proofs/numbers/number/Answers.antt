use Rattle.std.proofs.Common.{◌≡◌, Ok, sym, ap, true, false, ◌∙◌, subst}
use mir.Syntax.{w64}
use mir.Val.{to_z, of_z}
use Rattle.std.proofs.lemmas.Int.{to_z-of_z}
use Rattle.std.proofs.lemmas.Slice.Eq.{slice_eq-Decides}
use Rattle.std.proofs.lemmas.Bool.Decides.{Decides-eqb}
use Rattle.std.specs.Str.{IsUtf8}
use Rattle.std.specs.Fmt.{signed_decimal}
use Rattle.std.proofs.lemmas.Fmt.{parse-signed_decimal, IsAscii-signed}
use Rattle.std.proofs.lemmas.Str.{IsUtf8-from_ascii}
use Rattle.rl_cread.proofs.numbers.number.Goals as goal

pub returns-in_default : goal.returns-in_default
returns-in_default c = λ n fits e.
    let u : IsUtf8 c.args.text.now = subst IsUtf8 (sym e) (IsUtf8-from_ascii (signed_decimal n) (IsAscii-signed n fits.sfits)) in
    c.in_default.ensures.cases.0 u

pub returns-in_default-parse : goal.returns-in_default-parse
returns-in_default-parse c = λ n fits e.
    let r = parse-signed_decimal w64 n c.in-Ok.word.now _ fits fits.sfits (c.in-Ok.ensures.cases.0 ∙ e) c.parse.ensures.value.0 in
    c.in_default-parse.not-Ok n r

pub returns : goal.returns
returns c = λ n fits e.
    let r = parse-signed_decimal w64 n c.in-Ok.word.now _ fits fits.sfits (c.in-Ok.ensures.cases.0 ∙ e) c.parse.ensures.value.0 in
    let o : Ok c.in-Ok-parse.n ≡ Ok n = sym c.in-Ok-parse.is ∙ r in
    let same : c.in-Ok-parse.n ≡ n = cc in
    let z : to_z w64 (of_z w64 c.in-Ok-parse.n) ≡ n = ap (λ k. to_z w64 (of_z w64 k)) same ∙ to_z-of_z w64 n fits in
    let text : c.as_bytes.result.now ≡ c.args.text.now = c.as_bytes.ensures.value ∙ c.in_ok-printed.ensures.ok ∙ ap signed_decimal z ∙ sym e in
    let t : c.eq.result ≡ true = (slice_eq-Decides Decides-eqb _ _ _ c.eq.ensures).1 text in
    let f : true ≡ false = sym t ∙ c.if-eq.false in
    absurd cc
