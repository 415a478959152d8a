-- Lists up to an element and from it on.
use Rattle.std.proofs.Common.{◌≡◌, ℕ, suc, ◌+◌, ◌<◌, List, [], ◌∷◌, ◌++◌, length, take, drop, get_or, add-one, sym, ◌∙◌, ap}
use Rattle.std.proofs.Math.Seq.{take-suc, drop-cons}
use Rattle.std.proofs.lemmas.List.{take-append-drop}

module _ {A : Type 0} (xs : List A) (i : ℕ) (x : A) (less : i < length xs) (item : x ≡ get_or xs i x) where
  pub take_next : take (i + 1) xs ≡ take i xs ++ x ∷ []
  take_next = rw (add-one, take-suc xs i x less) (ap (λ z. take i xs ++ z ∷ []) (sym item))

  pub drop_next : drop i xs ≡ x ∷ drop (suc i) xs
  drop_next = drop-cons xs i x less ∙ ap (λ z. z ∷ drop (suc i) xs) (sym item)

  pub cut_there : xs ≡ take i xs ++ x ∷ drop (suc i) xs
  cut_there = sym (take-append-drop i xs) ∙ ap (λ rest. take i xs ++ rest) drop_next
