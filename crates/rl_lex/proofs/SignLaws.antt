-- Signs have few bytes.
use Rattle.std.proofs.Common.{◌≡◌, ℕ, zero, suc, ◌<◌, ◌≤◌, Bool, true, false, eqb, List, [], ◌∷◌, length, take, drop, Option, Some, None, ◌⊎◌, inl, inr, refl, ap, ◌∙◌, subst, arith, ◌-◌, length-take}
use Rattle.std.specs.Prelude.{◌&&◌, ◌||◌, not, nat_le}
use Rattle.std.specs.List.{list_all, list_any}
use Rattle.std.specs.Str.{bytes_eq}
use Rattle.std.proofs.lemmas.Bool.{cases_Bool, cases_order, and_parts, leb-true}
use Rattle.std.proofs.lemmas.Slice.Eq.{bytes_eq-Decides}
use Rattle.rl_arrays.specs.Names.{is_letter, is_digit}
use Rattle.rl_grammar.specs.declared.token.TokenKind.{TokenKind}
use Rattle.rl_lexical.specs.declared.context.Context.{Context}
use Rattle.rl_lexical.specs.Bytes.{less, greater, in_word, begins}
use Rattle.rl_lexical.specs.Fronts.{opened, front_kind}
use Rattle.rl_lexical.specs.Signs.{named, statement_signs, binary_signs, unary_signs, scanner_signs, sign_of, is_class, is_behind_greater, is_mark, sign_kinds, word_kinds, is_sign_kind, is_word_kind, is_mark_before, sign_before}
use Rattle.rl_lex.specs.Longest.{Finds, NoLongerSign, FindsSign}
use Rattle.rl_lex.proofs.KindLaws.{no_text, sign_kind}

not_longer : (most : ℕ) (text entry : List ℕ) → nat_le (length entry) most ≡ true → most < length text → bytes_eq text entry ≡ false
not_longer most text entry h l = elim (cases_Bool (bytes_eq text entry)) [
  | inr miss ↦ miss
  | inl hit ↦
      let same : text ≡ entry = (bytes_eq-Decides text entry).0 hit in
      let bound = leb-true (length entry) most h in
      absurd (omega (arith, ap length same))
]

none_named : (table : List (List ℕ × TokenKind)) (text : List ℕ) → list_all (λ e. nat_le (length e.0) 6) table ≡ true → 6 < length text → named table text ≡ None
none_named [] text h l = refl
none_named (e ∷ table) text h l =
    let parts = and_parts (nat_le (length e.0) 6) (list_all (λ e. nat_le (length e.0) 6) table) h in
    rw (not_longer 6 text e.0 parts.0 l) (none_named table text parts.1 l)

none_of : (words : List (List ℕ)) (text : List ℕ) → list_all (λ w. nat_le (length w) 4) words ≡ true → 4 < length text → list_any (bytes_eq text) words ≡ false
none_of [] text h l = refl
none_of (w ∷ words) text h l =
    let parts = and_parts (nat_le (length w) 4) (list_all (λ w. nat_le (length w) 4) words) h in
    rw (not_longer 4 text w parts.0 l) (none_of words text parts.1 l)

no_scanner_sign : (in_scanner : Bool) (text : List ℕ) → 6 < length text → named (scanner_signs in_scanner) text ≡ None
no_scanner_sign true text l = none_named (scanner_signs true) text refl l
no_scanner_sign false text l = refl

no_sign : (in_scanner : Bool) (text : List ℕ) → 6 < length text → sign_of in_scanner text ≡ None
no_sign in_scanner text l =
    rw (no_scanner_sign in_scanner text l) (rw (none_named statement_signs text refl l) (rw (none_named binary_signs text refl l) (none_named unary_signs text refl l)))

and_false : (a : Bool) → (a && false) ≡ false
and_false true = refl
and_false false = refl

module _ (is_kind : List ℕ → Bool) (short : (text : List ℕ) → 4 < length text → is_kind text ≡ false) where
  no_mark_behind : (text : List ℕ) → 5 < length text → is_behind_greater is_kind text ≡ false
  no_mark_behind [] l = refl
  no_mark_behind (b ∷ bs) l = rw (short bs (omega arith)) (and_false (eqb b greater))

  no_mark : (text : List ℕ) → 6 < length text → is_mark is_kind text ≡ false
  no_mark [] l = refl
  no_mark (b ∷ bs) l =
      rw (short bs (omega arith)) (rw (no_mark_behind bs (omega arith)) (ap (λ z. z || (eqb b less && false)) (and_false (is_class b)) ∙ and_false (eqb b less)))

no_mark_before : (rest text : List ℕ) → 6 < length text → is_mark_before rest text ≡ false
no_mark_before rest text l =
    let signs = no_mark is_sign_kind (λ t h. none_of sign_kinds t refl h) text l in
    let words = no_mark is_word_kind (λ t h. none_of word_kinds t refl h) text l in
    ap (λ z. z || (is_mark is_word_kind text && not (begins in_word rest))) signs ∙ ap (λ z. z && not (begins in_word rest)) words

pub no_long_sign : (in_scanner : Bool) (rest text : List ℕ) → 6 < length text → sign_before in_scanner rest text ≡ None
no_long_sign in_scanner rest text l = rw (no_mark_before rest text l) (no_sign in_scanner text l)

-- a front of more than six bytes is no sign
pub none_beyond : (in_scanner : Bool) (text : List ℕ) (m : ℕ) → 6 < m → m ≤ length text → sign_before in_scanner (drop m text) (take m text) ≡ None
none_beyond in_scanner text m l w = no_long_sign in_scanner (drop m text) (take m text) (omega (arith, length-take m text))

pub none_at_first : (in_scanner : Bool) (text : List ℕ) (n : ℕ) → n ≡ length text ⊎ n ≡ 6 → NoLongerSign in_scanner text n
none_at_first in_scanner text n (inl e) m l w = absurd (omega arith)
none_at_first in_scanner text n (inr e) m l w = none_beyond in_scanner text m (omega arith) w

-- one front less
pub none_here : (in_scanner : Bool) (text : List ℕ) (n : ℕ) → 0 < n → NoLongerSign in_scanner text n → sign_before in_scanner (drop n text) (take n text) ≡ None
    → NoLongerSign in_scanner text (n - 1)
none_here in_scanner text n some longer e m l w = elim (cases_order n m) [
  | inl same ↦ (let P : ℕ → Type 0 = λ z. sign_before in_scanner (drop z text) (take z text) ≡ None in subst P same e)
  | inr o ↦ elim o [ inl below ↦ longer m below w | inr above ↦ absurd (omega arith) ]
]

-- the longest sign is the longest token, where a byte begins nothing else
module _ (context : Context) (b : ℕ) (bs : List ℕ) (no_letter : is_letter b ≡ false) (no_digit : is_digit b ≡ false) (no_piece : opened context b ≡ None) where
  front_sign : (m : ℕ) → 0 < m → front_kind context (b ∷ bs) m ≡ sign_before context.in_scanner (drop m (b ∷ bs)) (take m (b ∷ bs))
  front_sign zero l = absurd (omega arith)
  front_sign (suc m) l = sign_kind context (drop m bs) b (take m bs) no_letter no_digit no_piece

  pub sign_found : (found : Option (TokenKind × ℕ)) → FindsSign context.in_scanner (b ∷ bs) found → Finds context (b ∷ bs) found
  sign_found None longer = λ m w. none_in_front longer m w
    where
      none_in_front : NoLongerSign context.in_scanner (b ∷ bs) 0 → (m : ℕ) → m ≤ length (b ∷ bs) → front_kind context (b ∷ bs) m ≡ None
      none_in_front longer zero w = no_text context (b ∷ bs)
      none_in_front longer (suc m) w = front_sign (suc m) (omega arith) ∙ longer (suc m) (omega arith) w
  sign_found (Some x) h = record {
    some = h.some;
    within = h.within;
    is_token = front_sign x.1 h.some ∙ h.is_sign;
    longest = λ m l w. (let some : 0 < x.1 = h.some in front_sign m (omega arith) ∙ h.longest m l w);
  }
