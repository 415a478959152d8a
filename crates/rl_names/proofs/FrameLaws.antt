-- The text of a variable, put in its place.
use Rattle.std.proofs.Common.{◌≡◌, ℕ, suc, ◌+◌, ◌<◌, ◌≤◌, cond, List, [], ◌∷◌, ◌++◌, length, slice_set, inl, inr, refl, sym, ap, ◌∙◌, arith}
use Rattle.std.specs.Prelude.{not}
use Rattle.std.specs.Str.{bytes_eq}
use Rattle.std.proofs.lemmas.Bool.{cases_Bool}
use Rattle.rl_names.specs.Frames.{variable_place, with_variable}

abbrev Pair : Type 0
Pair = List ℕ × List ℕ

pair_is : (p : Pair) (name text : List ℕ) → p.0 ≡ name → p.1 ≡ text → p ≡ (name, text)
pair_is p name text a b = (λ j. (a j, b j))

pub set_there : (name text : List ℕ) (vs : List Pair) (at : ℕ) (p : Pair) → at ≡ variable_place name vs → at < length vs → p.0 ≡ name → p.1 ≡ text
    → slice_set vs at p ≡ with_variable name text vs
set_there name text [] at p e l a b = absurd (omega arith)
set_there name text (v ∷ vs) at p e l a b = elim (cases_Bool (bytes_eq name v.0)) [
  | inl hit ↦
      let here : at ≡ 0 = e ∙ ap (λ z. cond (not z) (1 + variable_place name vs) 0) hit in
      ap (λ z. slice_set (v ∷ vs) z p) here
      ∙ (ap (λ z. z ∷ vs) (pair_is p name text a b) ∙ sym (ap (λ z. cond z ((name, text) ∷ vs) (v ∷ with_variable name text vs)) hit))
  | inr miss ↦
      let there : at ≡ 1 + variable_place name vs = e ∙ ap (λ z. cond (not z) (1 + variable_place name vs) 0) miss in
      let next : at ≡ suc (variable_place name vs) = omega (arith, there) in
      let less : variable_place name vs < length vs = omega (arith, there) in
      ap (λ z. slice_set (v ∷ vs) z p) next
      ∙ (ap (λ z. v ∷ z) (set_there name text vs (variable_place name vs) p refl less a b) ∙ sym (ap (λ z. cond z ((name, text) ∷ vs) (v ∷ with_variable name text vs)) miss))
]

pub set_absent : (name text : List ℕ) (vs : List Pair) (p : Pair) → length vs ≤ variable_place name vs → p.0 ≡ name → p.1 ≡ text → vs ++ p ∷ [] ≡ with_variable name text vs
set_absent name text [] p l a b = ap (λ z. z ∷ []) (pair_is p name text a b)
set_absent name text (v ∷ vs) p l a b = elim (cases_Bool (bytes_eq name v.0)) [
  | inl hit ↦
      let here : variable_place name (v ∷ vs) ≡ 0 = ap (λ z. cond (not z) (1 + variable_place name vs) 0) hit in
      absurd (omega (arith, here, l))
  | inr miss ↦
      let there : variable_place name (v ∷ vs) ≡ 1 + variable_place name vs = ap (λ z. cond (not z) (1 + variable_place name vs) 0) miss in
      let less : length vs ≤ variable_place name vs = omega (arith, there, l) in
      ap (λ z. v ∷ z) (set_absent name text vs p less a b) ∙ sym (ap (λ z. cond z ((name, text) ∷ vs) (v ∷ with_variable name text vs)) miss)
]
