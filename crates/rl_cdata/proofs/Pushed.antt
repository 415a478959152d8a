-- Texts that grow at their end.
use Rattle.std.proofs.Common.{◌≡◌, ℕ, List, [], ◌∷◌, ◌++◌, refl, sym, ap, ◌∙◌, append_assoc, append-nil}
use Rattle.std.specs.Prelude.{codes}
use Rattle.std.specs.List.{flat_map}
use Rattle.rl_arrays.specs.Section.{line_text, number_back}

-- one text behind another
pub behind : (old a b : List ℕ) {p q : List ℕ} → p ≡ old ++ a → q ≡ p ++ b → q ≡ old ++ (a ++ b)
behind old a b e f = f ∙ ap (λ t. t ++ b) e ∙ append_assoc old a b

-- a line whose number and end come behind its front
pub line_done : (old front number : List ℕ) {text new : List ℕ} → text ≡ old ++ front → new ≡ text ++ (number ++ codes ";\n")
    → new ≡ old ++ line_text (front ++ (number ++ number_back))
line_done old front number e f =
    behind old front (number ++ codes ";\n") e f
    ∙ ap (λ t. old ++ t) (sym (append_assoc front (number ++ number_back) (10 ∷ []) ∙ ap (λ t. front ++ t) (append_assoc number number_back (10 ∷ []))))

-- five texts, one behind another
pub five : (old a b c d e : List ℕ) {p q r s new : List ℕ} → p ≡ old ++ a → q ≡ p ++ b → r ≡ q ++ c → s ≡ r ++ d → new ≡ s ++ e
    → new ≡ old ++ (a ++ (b ++ (c ++ (d ++ (e ++ [])))))
five old a b c d e pa qb rc sd ne =
    behind old (((a ++ b) ++ c) ++ d) e (behind old ((a ++ b) ++ c) d (behind old (a ++ b) c (behind old a b pa qb) rc) sd) ne
    ∙ ap (λ t. old ++ t)
    (append_assoc ((a ++ b) ++ c) d e ∙ append_assoc (a ++ b) c (d ++ e) ∙ append_assoc a b (c ++ (d ++ e)) ∙ ap (λ t. a ++ (b ++ (c ++ (d ++ t)))) (sym (append-nil e)))

-- the lines of all parts, one behind another, the last one alone
pub all_parts : (f : List ℕ → List ℕ) (old : List ℕ) (head entries arrays : List (List ℕ)) (last : List ℕ) {p q r new : List ℕ}
    → p ≡ old ++ flat_map f head → q ≡ p ++ flat_map f entries → r ≡ q ++ flat_map f arrays → new ≡ r ++ f last
    → new ≡ old ++ flat_map f (head ++ (entries ++ (arrays ++ (last ∷ []))))
all_parts f old head entries arrays last ph qe ra nl =
    behind old ((flat_map f head ++ flat_map f entries) ++ flat_map f arrays) (f last)
    (behind old (flat_map f head ++ flat_map f entries) (flat_map f arrays) (behind old (flat_map f head) (flat_map f entries) ph qe) ra) nl
    ∙ ap (λ t. old ++ t)
    (append_assoc (flat_map f head ++ flat_map f entries) (flat_map f arrays) (f last)
    ∙ append_assoc (flat_map f head) (flat_map f entries) (flat_map f arrays ++ f last)
    ∙ sym (parts head (entries ++ (arrays ++ (last ∷ []))) ∙ ap (λ t. flat_map f head ++ t)
    (parts entries (arrays ++ (last ∷ [])) ∙ ap (λ t. flat_map f entries ++ t) (parts arrays (last ∷ []) ∙ ap (λ t. flat_map f arrays ++ t) (append-nil (f last))))))
  where
    parts : (xs ys : List (List ℕ)) → flat_map f (xs ++ ys) ≡ flat_map f xs ++ flat_map f ys
    parts [] ys = refl
    parts (x ∷ xs) ys = ap (λ t. f x ++ t) (parts xs ys) ∙ sym (append_assoc (f x) (flat_map f xs) (flat_map f ys))
