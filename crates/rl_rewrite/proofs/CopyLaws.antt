-- A row with a tree more.
use Rattle.std.proofs.Common.{◌≡◌, ℕ, suc, ◌+◌, ◌-◌, ◌<◌, ◌++◌, List, ◌∷◌, Option, Some, None, replicate, refl, ap, sym, subst, ◌∙◌, arith}
use Rattle.rl_types.specs.declared.numbers.Place.{Place}
use Rattle.rl_rewrite.specs.declared.placed.Placed as rust
use Rattle.rl_rewrite.specs.Walk.{Placed, row_behind}
use Rattle.rl_rewrite.specs.Steps.{appended, goes_on}

behind_next : (made : Option rust.Placed) (x : Placed) (xs : List Placed) (at : Place) → row_behind (appended made x at) xs at ≡ goes_on made (x ∷ xs) at
behind_next None x xs at = refl
behind_next (Some y) x xs at = refl

one_more : (m k : ℕ) (x : Placed) → k ≡ suc m → x ∷ replicate m x ≡ replicate k x
one_more m k x e = subst (λ z. x ∷ replicate m x ≡ replicate z x) (sym e) refl

pub row_step : (made : Option rust.Placed) (y x : Placed) (n i : ℕ) (us : List Placed) (at : Place) → i < n → y ≡ appended made x at
    → row_behind y (replicate (n - (i + 1)) x ++ us) at ≡ goes_on made (replicate (n - i) x ++ us) at
row_step made y x n i us at h e =
    let m : n - i ≡ suc (n - (i + 1)) = omega arith in
    ap (λ z. row_behind z (replicate (n - (i + 1)) x ++ us) at) e ∙ behind_next made x (replicate (n - (i + 1)) x ++ us) at
    ∙ ap (λ z. goes_on made (z ++ us) at) (one_more (n - (i + 1)) (n - i) x m)

pub row_step_last : (made : Option rust.Placed) (y x : Placed) (n i : ℕ) (at : Place) → i < n → y ≡ appended made x at
    → row_behind y (replicate (n - (i + 1)) x) at ≡ goes_on made (replicate (n - i) x) at
row_step_last made y x n i at h e =
    let m : n - i ≡ suc (n - (i + 1)) = omega arith in
    ap (λ z. row_behind z (replicate (n - (i + 1)) x) at) e ∙ behind_next made x (replicate (n - (i + 1)) x) at
    ∙ ap (λ z. goes_on made z at) (one_more (n - (i + 1)) (n - i) x m)
