-- No two sections have the same lines.
use Rattle.std.proofs.Common.{◌≡◌, ◌<◌, ℕ, zero, suc, List, [], ◌∷◌, length, map, get_or, Some, sym, ap, ◌∙◌, refl, arith, length-append}
use Rattle.std.specs.Prelude.{IsTrue, ℤ, pos, negsuc, slice_get, codes}
use Rattle.std.specs.List.{AllByRecursion, flat_map}
use Rattle.std.specs.Fmt.{decimal, signed_decimal}
use Rattle.std.proofs.lemmas.Fmt.{first_decimal, decimal_digit, signed_decimal_injective}
use Rattle.std.proofs.lemmas.List.{append_cancel_left}
use Rattle.rl_arrays.specs.declared.arrays.ArrayName.{ArrayName}
use Rattle.rl_arrays.specs.Names.{is_name}
use Rattle.rl_arrays.specs.Section.{joined, comma, quoted, number_front, entry_line, array_front}
use Rattle.rl_cread.specs.declared.said.Form.{Form}
use Rattle.rl_cread.specs.declared.said.Form.TheVariants as form
use Rattle.rl_cread.specs.declared.said.Said.{Said}
use Rattle.rl_cread.specs.declared.said.Said.TheVariants as the
use Rattle.rl_cread.specs.declared.said.Label.{Label}
use Rattle.rl_cread.specs.Contents.{IsPrintedNumber, IsPrintedName}
use Rattle.rl_cread.specs.Elements.{entry_front, entry_text}
use Rattle.rl_cread.specs.Lines.{line, label_word, FitsForm, AllFit, Agrees, IsBadAt}
use Rattle.rl_cread.proofs.Marking.{same_mid}
use Rattle.rl_cread.proofs.Lacking.{Lacks, number_lacks, quoted_lacks}
use Rattle.rl_cread.proofs.Pieces.{cut, cut_joined, all_map}
use Rattle.rl_cread.proofs.EntryLaws.{entry_is, entry_cut}

filled : (xs : List ℕ) → 0 < get_or xs 0 0 → 0 < length xs
filled [] h = absurd (omega arith)
filled (x ∷ xs) h = omega arith

number_filled : (z : ℤ) → IsPrintedNumber z → 0 < length (signed_decimal z)
number_filled (pos zero) h = rw (decimal_digit 0 (omega arith)) (omega arith)
number_filled (pos (suc n)) h = let k = h.sfits in filled (decimal (suc n)) (let d = first_decimal (suc n) (omega arith) (omega (arith, k)) in omega (arith, d))
number_filled (negsuc n) h = omega arith

quoted_filled : (name : List ℕ) → IsPrintedName name → 0 < length (quoted name)
quoted_filled name h = omega arith

same_number : (n m : ℤ) → IsPrintedNumber n → IsPrintedNumber m → signed_decimal n ≡ signed_decimal m → n ≡ m
same_number n m p q e = signed_decimal_injective n m p.sfits q.sfits e

same_quoted : (a b : List ℕ) → IsPrintedName a → IsPrintedName b → quoted a ≡ quoted b → a ≡ b
same_quoted a b p q e = same_mid (codes "\"") a b (codes "\"") e

same_spaced : (us vs : List (List ℕ)) → map (λ t. 32 ∷ t) us ≡ map (λ t. 32 ∷ t) vs → us ≡ vs
same_spaced [] [] e = refl
same_spaced [] (v ∷ vs) e = absurd cc
same_spaced (u ∷ us) [] e = absurd cc
same_spaced (u ∷ us) (v ∷ vs) e =
    let h : 32 ∷ u ≡ 32 ∷ v = cc in
    let t : map (λ t. 32 ∷ t) us ≡ map (λ t. 32 ∷ t) vs = cc in
    let a : u ≡ v = cc in
    ap (λ x. x ∷ us) a ∙ ap (λ x. v ∷ x) (same_spaced us vs t)

same_map : {A : Type 0} (f : A → List ℕ) (P : A → Type 0) → ((x y : A) → P x → P y → f x ≡ f y → x ≡ y) → (xs ys : List A) → AllByRecursion P xs
    → AllByRecursion P ys → map f xs ≡ map f ys → xs ≡ ys
same_map f P once [] [] p q e = refl
same_map f P once [] (y ∷ ys) p q e = absurd cc
same_map f P once (x ∷ xs) [] p q e = absurd cc
same_map f P once (x ∷ xs) (y ∷ ys) p q e =
    let h : f x ≡ f y = cc in
    let t : map f xs ≡ map f ys = cc in
    ap (λ z. z ∷ xs) (once x y p.0 q.0 h) ∙ ap (λ z. y ∷ z) (same_map f P once xs ys p.1 q.1 t)

same_joined : {A : Type 0} (f : A → List ℕ) (P : A → Type 0) → ((x : A) → P x → Lacks 44 (f x)) → ((x : A) → P x → 0 < length (f x))
    → ((x y : A) → P x → P y → f x ≡ f y → x ≡ y)
    → (xs ys : List A) → AllByRecursion P xs → AllByRecursion P ys → joined (map f xs) ≡ joined (map f ys) → xs ≡ ys
same_joined f P lacks some once [] [] p q e = refl
same_joined f P lacks some once [] (y ∷ ys) p q e = let s = some y q.0 in let l = length-append (f y) (flat_map comma (map f ys)) in absurd (omega (arith, ap length e, s, l))
same_joined f P lacks some once (x ∷ xs) [] p q e = let s = some x p.0 in let l = length-append (f x) (flat_map comma (map f xs)) in absurd (omega (arith, ap length e, s, l))
same_joined f P lacks some once (x ∷ xs) (y ∷ ys) p q e =
    same_map f P once (x ∷ xs) (y ∷ ys) p q (same_spaced (map f (x ∷ xs)) (map f (y ∷ ys)) (
    sym (cut_joined (f x) (map f xs) (all_map f P lacks (x ∷ xs) p)) ∙ ap (λ t. cut (32 ∷ t)) e ∙ cut_joined (f y) (map f ys) (all_map f P lacks (y ∷ ys) q)))

same_entry : (name word other : List ℕ) (n m : ℤ) → IsTrue (is_name word) × IsPrintedNumber n → IsTrue (is_name other) × IsPrintedNumber m
    → entry_line name (word, n) ≡ entry_line name (other, m) → the.Entry word n ≡ the.Entry other m
same_entry name word other n m p q e =
    let t : entry_text word n ≡ entry_text other m = append_cancel_left (entry_front name) (entry_text word n) (entry_text other m) (sym (entry_is name word n) ∙ e ∙ entry_is name other m) in
    let a = entry_cut (entry_text word n) word n p.0 refl in
    let b = entry_cut (entry_text word n) other m q.0 t in
    let w : word ≡ other = sym a.front ∙ b.front in
    let d : n ≡ m = same_number n m p.1 q.1 (same_mid (codes " = ") (signed_decimal n) (signed_decimal m) (codes ";") (sym a.back ∙ b.back)) in
    ap (λ x. the.Entry x n) w ∙ ap (the.Entry other) d

same_numbered : (name : List ℕ) (l k j : Label) (n m : ℤ) → (k ≡ l) × IsPrintedNumber n → (j ≡ l) × IsPrintedNumber m
    → line name (the.Number k n) ≡ line name (the.Number j m) → the.Number k n ≡ the.Number j m
same_numbered name l k j n m p q e =
    let a : k ≡ j = p.0 ∙ sym q.0 in
    let f : line name (the.Number j n) ≡ line name (the.Number j m) = ap (λ x. line name (the.Number x n)) (sym a) ∙ e in
    ap (λ x. the.Number x n) a ∙ ap (the.Number j) (same_number n m p.1 q.1 (same_mid (number_front name (label_word j)) (signed_decimal n) (signed_decimal m) (codes ";") f))

same_numbers : (name : List ℕ) (x k j : ArrayName) (ns ms : List ℤ) → (k ≡ x) × AllByRecursion IsPrintedNumber ns
    → (j ≡ x) × AllByRecursion IsPrintedNumber ms → line name (the.Numbers k ns) ≡ line name (the.Numbers j ms) → the.Numbers k ns ≡ the.Numbers j ms
same_numbers name x k j ns ms p q e =
    let a : k ≡ j = p.0 ∙ sym q.0 in
    let f : line name (the.Numbers j ns) ≡ line name (the.Numbers j ms) = ap (λ y. line name (the.Numbers y ns)) (sym a) ∙ e in
    ap (λ y. the.Numbers y ns) a ∙ ap (the.Numbers j) (same_joined signed_decimal IsPrintedNumber number_lacks number_filled same_number ns ms p.1 q.1 (same_mid (array_front name j) (joined (map signed_decimal ns)) (joined (map signed_decimal ms)) (codes " };") f))

same_names : (name : List ℕ) (x k j : ArrayName) (ns ms : List (List ℕ)) → (k ≡ x) × AllByRecursion IsPrintedName ns
    → (j ≡ x) × AllByRecursion IsPrintedName ms → line name (the.Names k ns) ≡ line name (the.Names j ms) → the.Names k ns ≡ the.Names j ms
same_names name x k j ns ms p q e =
    let a : k ≡ j = p.0 ∙ sym q.0 in
    let f : line name (the.Names j ns) ≡ line name (the.Names j ms) = ap (λ y. line name (the.Names y ns)) (sym a) ∙ e in
    ap (λ y. the.Names y ns) a ∙ ap (the.Names j) (same_joined quoted IsPrintedName quoted_lacks quoted_filled same_quoted ns ms p.1 q.1 (same_mid (array_front name j) (joined (map quoted ns)) (joined (map quoted ms)) (codes " };") f))

line_once : (name : List ℕ) (f : Form) (c d : Said) → FitsForm f c → FitsForm f d → line name c ≡ line name d → c ≡ d
line_once name (form.Number l) (the.Number k n) (the.Number j m) p q e = same_numbered name l k j n m p q e
line_once name (form.Number l) (the.Number k n) d p q e = absurd q
line_once name form.Error the.Error the.Error p q e = refl
line_once name form.Error the.Error d p q e = absurd q
line_once name form.Entry (the.Entry word n) (the.Entry other m) p q e = same_entry name word other n m p q e
line_once name form.Entry (the.Entry word n) d p q e = absurd q
line_once name (form.Numbers x) (the.Numbers k ns) (the.Numbers j ms) p q e = same_numbers name x k j ns ms p q e
line_once name (form.Numbers x) (the.Numbers k ns) d p q e = absurd q
line_once name (form.Names x) (the.Names k ns) (the.Names j ms) p q e = same_names name x k j ns ms p q e
line_once name (form.Names x) (the.Names k ns) d p q e = absurd q
line_once name form.Last the.Last the.Last p q e = refl
line_once name form.Last the.Last d p q e = absurd q
line_once name f c d p q e = absurd p

said_once : (name : List ℕ) (fs : List Form) (cs ds : List Said) → AllFit fs cs → AllFit fs ds
    → ((j : ℕ) → j < length fs → slice_get (map (line name) cs) j ≡ slice_get (map (line name) ds) j) → cs ≡ ds
said_once name [] [] [] p q e = refl
said_once name [] [] (d ∷ ds) p q e = absurd q
said_once name [] (c ∷ cs) ds p q e = absurd p
said_once name (f ∷ fs) [] ds p q e = absurd p
said_once name (f ∷ fs) (c ∷ cs) [] p q e = absurd q
said_once name (f ∷ fs) (c ∷ cs) (d ∷ ds) p q e =
    let h : Some (line name c) ≡ Some (line name d) = e 0 (omega arith) in
    let a = line_once name f c d p.0 q.0 cc in
    let b = said_once name fs cs ds p.1 q.1 (λ j lt. e (suc j) (omega arith)) in
    ap (λ x. x ∷ cs) a ∙ ap (λ x. d ∷ x) b

-- a section says one thing
pub agrees_once : (name : List ℕ) (fs : List Form) (lines : List (List ℕ)) (cs ds : List Said) → Agrees name fs lines (length fs) cs
    → Agrees name fs lines (length fs) ds → cs ≡ ds
agrees_once name fs lines cs ds a b = said_once name fs cs ds a.fits b.fits (λ j lt. sym (a.same j lt) ∙ b.same j lt)

-- and no line of it is bad
pub bad_agrees : (name : List ℕ) (fs : List Form) (lines : List (List ℕ)) (k : ℕ) (cs : List Said) → IsBadAt name fs lines k
    → Agrees name fs lines (length fs) cs → ⊥
bad_agrees name fs lines k cs bad a = bad.none (let w = bad.within in record { said = cs; agrees = record { fits = a.fits; same = λ j lt. a.same j (omega (arith, w)) } })
