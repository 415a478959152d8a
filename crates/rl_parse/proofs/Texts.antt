-- The texts of tokens, and the characters of literals.
use Rattle.std.proofs.Common.{◌≡◌, ℕ, zero, suc, ◌+◌, ◌<◌, ◌≤◌, Bool, true, false, List, [], ◌∷◌, length, drop, slice_index_or, refl, ap, sym, ◌∙◌, arith}
use Rattle.std.specs.Prelude.{not, if◌then◌else◌, ◌==◌}
use Rattle.rl_grammar.specs.Lexeme.{carried, same_kind}
use Rattle.rl_grammar.specs.Literals.{characters, escaped}
use Rattle.rl_grammar.specs.declared.token.TokenKind.{TokenKind}
use Rattle.rl_grammar.specs.declared.token.TokenKind.TheVariants as k
use Rattle.rl_parse.specs.Rules.{count_of, slash_after}
use Rattle.rl_parse.proofs.AllKinds.{kinds_same}

pub name_carried : (kind : TokenKind) (text : List ℕ) → same_kind kind k.Name ≡ true → carried kind text ≡ text
name_carried kind text e = ap (λ z. carried z text) (kinds_same kind k.Name e)

pub literal_carried : (kind : TokenKind) (text : List ℕ) → same_kind kind k.Literal ≡ true → carried kind text ≡ text
literal_carried kind text e = ap (λ z. carried z text) (kinds_same kind k.Literal e)

one_more : (slash : Bool) (b : ℕ) (bs : List ℕ) → length (characters slash (b ∷ bs)) ≡ count_of slash b + length (characters (slash_after slash b) bs)
unfolding characters
one_more true b bs = by_newline (b == 10)
  where
    by_newline : (is : Bool) → length (if is then characters false bs else escaped b ∷ characters false bs) ≡ (if not is then 1 else 0) + length (characters false bs)
    by_newline true = omega arith
    by_newline false = omega arith
one_more false b bs = by_slash (b == 92)
  where
    by_slash : (is : Bool) → length (if is then characters true bs else b ∷ characters false bs) ≡ (if not is then 1 else 0) + length (characters is bs)
    by_slash true = omega arith
    by_slash false = omega arith

pub count_more : (slash : Bool) (text : List ℕ) (at d : ℕ) → at < length text
    → length (characters slash (drop at text)) ≡ count_of slash (slice_index_or text at d) + length (characters (slash_after slash (slice_index_or text at d)) (drop (at + 1) text))
count_more slash [] at d l = absurd (omega arith)
count_more slash (b ∷ bs) zero d l = one_more slash b bs
count_more slash (b ∷ bs) (suc at) d l =
    let e : suc at + 1 ≡ suc (at + 1) = omega arith in
    let below : at < length bs = omega arith in
    count_more slash bs at d below ∙ ap (λ z. count_of slash (slice_index_or bs at d) + length (characters (slash_after slash (slice_index_or bs at d)) (drop z (b ∷ bs)))) (sym e)

pub none_left : (slash : Bool) (text : List ℕ) (at : ℕ) → length text ≤ at → length (characters slash (drop at text)) ≡ 0
unfolding characters
none_left slash [] zero l = refl
none_left slash [] (suc at) l = refl
none_left slash (b ∷ bs) zero l = absurd (omega arith)
none_left slash (b ∷ bs) (suc at) l = let less : length bs ≤ at = omega arith in none_left slash bs at less
