-- The numbers that digits write, digit by digit, and those of tokens.
use Rattle.std.proofs.Common.{◌≡◌, ℕ, zero, suc, ◌+◌, ◌*◌, ◌^◌, ◌<◌, ◌≤◌, true, List, [], ◌∷◌, length, drop, slice_index_or, refl, sym, ap, ◌∙◌, arith}
use Rattle.std.specs.Char.{digit_value}
use Rattle.std.specs.Str.Parse.{digits_value_after}
use Rattle.rl_grammar.specs.Refusals.{NumbersFit, is_at, number_at}
use Rattle.rl_grammar.specs.declared.token.Token.{Token}
use Rattle.rl_grammar.specs.declared.token.TokenKind.TheVariants as k
use Rattle.rl_parse.proofs.AllKinds.{kinds_same}

pub digits_more : (radix n : ℕ) (text : List ℕ) (at d : ℕ) → at < length text
    → digits_value_after radix n (drop at text) ≡ digits_value_after radix (n * radix + digit_value (slice_index_or text at d)) (drop (at + 1) text)
digits_more radix n [] at d l = absurd (omega arith)
digits_more radix n (c ∷ cs) zero d l = refl
digits_more radix n (c ∷ cs) (suc at) d l =
    let e : suc at + 1 ≡ suc (at + 1) = omega arith in
    let below : at < length cs = omega arith in
    digits_more radix n cs at d below ∙ ap (λ z. digits_value_after radix (n * radix + digit_value (slice_index_or cs at d)) (drop z (c ∷ cs))) (sym e)

at_least_once : (n radix : ℕ) → 1 ≤ radix → n ≤ n * radix
at_least_once n radix l = grind arith

pub digits_least : (radix n : ℕ) (text : List ℕ) → 1 ≤ radix → n ≤ digits_value_after radix n text
digits_least radix n [] l = omega arith
digits_least radix n (c ∷ cs) l =
    let once = at_least_once n radix l in
    let more = digits_least radix (n * radix + digit_value c) cs l in
    omega (arith, once, more)

pub no_digits : (radix n : ℕ) (text : List ℕ) (at : ℕ) → length text ≤ at → digits_value_after radix n (drop at text) ≡ n
no_digits radix n [] zero l = refl
no_digits radix n [] (suc at) l = refl
no_digits radix n (c ∷ cs) zero l = absurd (omega arith)
no_digits radix n (c ∷ cs) (suc at) l = let less : length cs ≤ at = omega arith in no_digits radix n cs at less

-- each integer of the tokens fits
pub fits_at : (ts : List Token) (at : ℕ) → NumbersFit ts → is_at k.Integer ts at ≡ true → number_at ts at < 2 ^ 63
fits_at [] at h is = cc
fits_at (t ∷ ts) zero h is = h 0 t (omega arith) (kinds_same t.kind k.Integer is)
fits_at (t ∷ ts) (suc at) h is = fits_at ts at (λ i d l. h (suc i) d (omega arith)) is
