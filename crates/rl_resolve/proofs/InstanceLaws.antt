-- What is told of each machine as statements are read: whether it has an instantiation.
use Rattle.std.proofs.Common.{◌≡◌, ℕ, ◌+◌, ◌<◌, ◌≤◌, Bool, true, false, cond, List, ◌∷◌, length, drop, get_or, inl, inr, refl, sym, ap, ◌∙◌, drop-cons, add-one}
use Rattle.std.specs.Prelude.{◌&&◌, ◌||◌}
use Rattle.std.specs.Str.{bytes_eq}
use Rattle.std.proofs.lemmas.Bool.{cases_Bool}
use Rattle.std.proofs.lemmas.List.{drop_all}
use Rattle.std.proofs.lemmas.Slice.Eq.{bytes_eq-Decides}
use Rattle.rl_grammar.specs.declared.step.Step.{Step}
use Rattle.rl_resolve.specs.Resolving.{is_instance, has_instance, instantiates}

or_false : (b : Bool) → (b || false) ≡ b
or_false true = refl
or_false false = refl

or_grouped : (a b c : Bool) → ((a || b) || c) ≡ (a || (b || c))
or_grouped true b c = refl
or_grouped false b c = refl

one_told : (told : List ℕ → Bool) (x m : List ℕ) (own : Bool) → cond (bytes_eq x m) (told m || own) (told x) ≡ (told x || (bytes_eq x m && own))
one_told told x m own = elim (cases_Bool (bytes_eq x m)) [
  | inl hit ↦
      let same : x ≡ m = (bytes_eq-Decides x m).0 hit in
      ap (λ z. cond z (told m || own) (told x)) hit
      ∙ (ap (λ z. told z || own) (sym same) ∙ sym (ap (λ z. told x || (z && own)) hit))
  | inr miss ↦
      ap (λ z. cond z (told m || own) (told x)) miss
      ∙ (sym (or_false (told x)) ∙ sym (ap (λ z. told x || (z && own)) miss))
]

-- a statement more is told of its machine
pub told_more : (told : List ℕ → Bool) (x m : List ℕ) (new : Bool) (s : Step) → m ≡ s.machine → new ≡ (told m || instantiates s.statement)
    → cond (bytes_eq x m) new (told x) ≡ (told x || is_instance x s)
told_more told x m new s named made =
    ap (λ z. cond (bytes_eq x m) z (told x)) made
    ∙ (one_told told x m (instantiates s.statement) ∙ ap (λ z. told x || (bytes_eq x z && instantiates s.statement)) named)

at_head : {A : Type 0} (xs : List A) (i : ℕ) (x : A) → i < length xs → x ≡ get_or xs i x → drop i xs ≡ x ∷ drop (i + 1) xs
at_head xs i x less item =
    let here : drop i xs ≡ get_or xs i x ∷ drop (i + 1) xs = rw (add-one, drop-cons xs i x) refl in
    here ∙ ap (λ z. z ∷ drop (i + 1) xs) (sym item)

-- the statements that are left, one less
pub goes_on : (steps : List Step) (i : ℕ) (s : Step) → i < length steps → s ≡ get_or steps i s → (x : List ℕ) (old new : Bool) → new ≡ (old || is_instance x s)
    → (old || has_instance (drop i steps) x) ≡ has_instance steps x → (new || has_instance (drop (i + 1) steps) x) ≡ has_instance steps x
goes_on steps i s less item x old new more all =
    ap (λ z. z || has_instance (drop (i + 1) steps) x) more
    ∙ (or_grouped old (is_instance x s) (has_instance (drop (i + 1) steps) x)
    ∙ (ap (λ z. old || has_instance z x) (sym (at_head steps i s less item)) ∙ all))

pub at_end : (steps : List Step) (i : ℕ) (x : List ℕ) (told : Bool) → length steps ≤ i → (told || has_instance (drop i steps) x) ≡ has_instance steps x → told ≡ has_instance steps x
at_end steps i x told over all = sym (or_false told) ∙ (ap (λ z. told || has_instance z x) (sym (drop_all i steps over)) ∙ all)
