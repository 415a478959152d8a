-- The line of an entry: its name goes up to the first blank.
use Rattle.std.proofs.Common.{◌≡◌, ◌+◌, ◌==◌, ℕ, List, [], ◌∷◌, ◌++◌, length, take, drop, Bool, true, false, Option, Some, None, sym, ap, ◌∙◌, refl, arith, append_assoc}
use Rattle.std.specs.Prelude.{IsTrue, ℤ, cond, not, codes, Result, Ok, Err, IfOk, MatchOption}
use Rattle.std.specs.List.{prefix_len}
use Rattle.std.specs.Fmt.{signed_decimal}
use Rattle.std.proofs.lemmas.List.{take_at, drop_at, append_cancel_left}
use Rattle.rl_arrays.specs.Names.{is_name}
use Rattle.rl_arrays.specs.Section.{entry_line}
use Rattle.rl_cread.specs.Elements.{entry_front, entry_text}
use Rattle.rl_cread.specs.Contents.{IsPrintedNumber}
use Rattle.rl_cread.proofs.Lacking.{Lacks, name_lacks}

pub entry_is : (name word : List ℕ) (n : ℤ) → entry_line name (word, n) ≡ entry_front name ++ entry_text word n
entry_is name word n =
    ap (λ t. codes "static const int " ++ t) (
    append_assoc name (codes "_en_" ++ (word ++ codes " = ")) (signed_decimal n ++ codes ";")
    ∙ ap (λ t. name ++ (codes "_en_" ++ t)) (append_assoc word (codes " = ") (signed_decimal n ++ codes ";"))
    ∙ sym (append_assoc name (codes "_en_") (entry_text word n))
    )

abbrev pub in_word : ℕ → Bool
in_word b = not (b == 32)

blank_at : (w more : List ℕ) → Lacks 32 w → prefix_len in_word (w ++ (32 ∷ more)) ≡ length w
blank_at [] more h = refl
blank_at (b ∷ w) more h = ap (λ t. cond (not t) (1 + prefix_len in_word (w ++ (32 ∷ more))) 0) h.each.0 ∙ let r = blank_at w more (record { each = h.each.1 }) in omega (arith, r)

-- what the first blank cuts an entry's text into
pub record IsCut (text word : List ℕ) (n : ℤ) : Type 0 where
  pub front : take (prefix_len in_word text) text ≡ word
  pub back : drop (prefix_len in_word text) text ≡ codes " = " ++ (signed_decimal n ++ codes ";")

pub entry_cut : (text word : List ℕ) (n : ℤ) → IsTrue (is_name word) → text ≡ entry_text word n → IsCut text word n
entry_cut text word n h e =
    let more : List ℕ = codes "= " ++ (signed_decimal n ++ codes ";") in
    let len : prefix_len in_word text ≡ length word = ap (prefix_len in_word) e ∙ blank_at word more (name_lacks 32 refl refl word h) in
    record {
      front = ap (take (prefix_len in_word text)) e ∙ take_at word (32 ∷ more) (prefix_len in_word text) (sym len);
      back = ap (drop (prefix_len in_word text)) e ∙ drop_at word (32 ∷ more) (prefix_len in_word text) (sym len);
    }

pub unnamed : (text word : List ℕ) (n : ℤ) → is_name (take (prefix_len in_word text) text) ≡ false → IsTrue (is_name word) → text ≡ entry_text word n → ⊥
unnamed text word n fails h e = let k = entry_cut text word n h e in let t : false ≡ true = sym fails ∙ ap is_name k.front ∙ h in absurd cc

entry_option : (name line text : List ℕ) (o : Option (List ℕ × ℤ)) → line ≡ entry_front name ++ text
    → MatchOption o ((word : List ℕ) (n : ℤ) → IsTrue (is_name word) → IsPrintedNumber n → text ≡ entry_text word n → ⊥) (λ e. IsTrue (is_name e.0) × IsPrintedNumber e.1 × (text ≡ entry_text e.0 e.1))
    → MatchOption o ((word : List ℕ) (n : ℤ) → IsTrue (is_name word) → IsPrintedNumber n → line ≡ entry_line name (word, n) → ⊥) (λ e. IsTrue (is_name e.0) × IsPrintedNumber e.1 × (line ≡ entry_line name e))
entry_option name line text None e h = λ word n f p k. h word n f p (append_cancel_left (entry_front name) text (entry_text word n) (sym e ∙ k ∙ entry_is name word n))
entry_option name line text (Some x) e h = (h.0, h.1, e ∙ ap (λ t. entry_front name ++ t) h.2 ∙ sym (entry_is name x.0 x.1))

pub entry_result : {E : Type 0} (name line text : List ℕ) (r : Result (Option (List ℕ × ℤ)) E) → line ≡ entry_front name ++ text
    → IfOk r (λ o. MatchOption o ((word : List ℕ) (n : ℤ) → IsTrue (is_name word) → IsPrintedNumber n → text ≡ entry_text word n → ⊥) (λ e. IsTrue (is_name e.0) × IsPrintedNumber e.1 × (text ≡ entry_text e.0 e.1)))
    → IfOk r (λ o. MatchOption o ((word : List ℕ) (n : ℤ) → IsTrue (is_name word) → IsPrintedNumber n → line ≡ entry_line name (word, n) → ⊥) (λ e. IsTrue (is_name e.0) × IsPrintedNumber e.1 × (line ≡ entry_line name e)))
entry_result name line text (Ok o) e h = entry_option name line text o e h
entry_result name line text (Err x) e h = tt

pub no_entry : (name line : List ℕ) → ((text : List ℕ) → line ≡ entry_front name ++ text → ⊥) → (word : List ℕ) (n : ℤ) → line ≡ entry_line name (word, n) → ⊥
no_entry name line h word n e = h (entry_text word n) (e ∙ entry_is name word n)
