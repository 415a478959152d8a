-- An entry line is no line of an array: it has no bracket.
use Rattle.std.proofs.Common.{◌≡◌, ◌==◌, ℕ, List, [], ◌∷◌, ◌++◌, true, false, subst, refl}
use Rattle.std.specs.Prelude.{IsTrue, ℤ, codes, not}
use Rattle.std.specs.List.{list_all}
use Rattle.std.specs.Fmt.{signed_decimal}
use Rattle.rl_arrays.specs.declared.arrays.ArrayName.TheVariants as array
use Rattle.rl_arrays.specs.Names.{is_name}
use Rattle.rl_arrays.specs.Section.{entry_line, array_line, joined}
use Rattle.rl_cread.specs.Contents.{IsPrintedNumber}
use Rattle.rl_cread.proofs.Lacking.{Lacks, Lacks-nil, Lacks-cons, Lacks-append, lacks_tested, name_lacks, number_lacks_bracket}

lacks_back : (c : ℕ) (xs ys : List ℕ) → Lacks c (xs ++ ys) → Lacks c ys
lacks_back c [] ys h = h
lacks_back c (x ∷ xs) ys h = lacks_back c xs ys (record { each = h.each.1 })

lacks_front : (c : ℕ) (xs ys : List ℕ) → Lacks c (xs ++ ys) → Lacks c xs
lacks_front c [] ys h = Lacks-nil c
lacks_front c (x ∷ xs) ys h = Lacks-cons c x xs h.each.0 (lacks_front c xs ys (record { each = h.each.1 }))

plain : (text : List ℕ) → list_all (λ b. not (b == 91)) text ≡ true → Lacks 91 text
plain text h = lacks_tested 91 (λ b. not (b == 91)) refl text h

entry_plain : (name word : List ℕ) (n : ℤ) → IsTrue (is_name name) → IsTrue (is_name word) → IsPrintedNumber n → Lacks 91 (entry_line name (word, n))
entry_plain name word n f g h =
    Lacks-append 91 _ _
    (Lacks-append 91 (codes "static const int ") _ (plain _ refl)
    (Lacks-append 91 name _ (name_lacks 91 refl refl name f) (Lacks-append 91 (codes "_en_") _ (plain _ refl) (Lacks-append 91 word (codes " = ") (name_lacks 91 refl refl word g) (plain _ refl)))))
    (Lacks-append 91 (signed_decimal n) (codes ";") (number_lacks_bracket n h) (plain _ refl))

actions_plain : (name : List ℕ) (texts : List (List ℕ)) → Lacks 91 (array_line name array.Actions texts) → ⊥
actions_plain name texts h =
    let a = lacks_back 91 (codes "static const int _") ((name ++ codes "_actions[] = { ") ++ (joined texts ++ codes " };")) h in
    let b = lacks_front 91 (name ++ codes "_actions[] = { ") (joined texts ++ codes " };") a in
    let c = lacks_back 91 name (codes "_actions[] = { ") b in
    let d = lacks_back 91 (codes "_actions") (codes "[] = { ") c in
    let e : true ≡ false = d.each.0 in
    absurd cc

pub no_both : (name word : List ℕ) (n : ℤ) (texts : List (List ℕ)) → IsTrue (is_name name) → IsTrue (is_name word) → IsPrintedNumber n
    → entry_line name (word, n) ≡ array_line name array.Actions texts → ⊥
no_both name word n texts f g h e = actions_plain name texts (subst (Lacks 91) e (entry_plain name word n f g h))
