-- Fronts of a class of bytes.
use Rattle.std.proofs.Common.{◌≡◌, ℕ, zero, suc, ◌+◌, ◌<◌, ◌≤◌, Bool, true, false, cond, List, [], ◌∷◌, length, take, inl, inr, refl, arith}
use Rattle.std.specs.List.{prefix_len, list_all}
use Rattle.std.proofs.lemmas.Bool.{cases_Bool}

module _ (p : ℕ → Bool) where
  pub all_front : (xs : List ℕ) → list_all p (take (prefix_len p xs) xs) ≡ true
  all_front [] = refl
  all_front (x ∷ xs) = elim (cases_Bool (p x)) [
    | inl hit ↦
        let n : 1 + prefix_len p xs ≡ suc (prefix_len p xs) = omega arith in
        rw hit (rw n (rw hit (all_front xs)))
    | inr miss ↦ rw miss refl
  ]

  pub not_all : (xs : List ℕ) (m : ℕ) → prefix_len p xs < m → m ≤ length xs → list_all p (take m xs) ≡ false
  not_all [] m l w = absurd (omega arith)
  not_all (x ∷ xs) zero l w = absurd (omega arith)
  not_all (x ∷ xs) (suc m) l w = elim (cases_Bool (p x)) [
    | inl hit ↦
        let less : cond (p x) (1 + prefix_len p xs) 0 < suc m = l in
        let here : 1 + prefix_len p xs < suc m = rw hit at less in
        rw hit (not_all xs m (omega arith) (omega arith))
    | inr miss ↦ rw miss refl
  ]

  pub front_bound : (xs : List ℕ) → prefix_len p xs ≤ length xs
  front_bound [] = omega arith
  front_bound (x ∷ xs) = elim (cases_Bool (p x)) [
    | inl hit ↦ rw hit (let less = front_bound xs in omega arith)
    | inr miss ↦ rw miss (omega arith)
  ]
