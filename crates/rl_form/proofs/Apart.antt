-- Names and numbers that differ.
use Rattle.std.proofs.Common.{◌≡◌, ℕ, suc, ◌+◌, ◌<◌, Bool, true, false, true≢false, cond, ◌⊎◌, length, drop, get_or, drop-cons, add-one, List, [], ◌∷◌, ◌++◌, map, inl, inr, refl, sym, ap, ◌∙◌, subst, append_assoc}
use Rattle.std.specs.Prelude.{not, ◌||◌, ◌↔◌, IsTrue}
use Rattle.std.specs.List.{list_any}
use Rattle.std.specs.Str.{bytes_eq}
use Rattle.std.proofs.lemmas.Bool.{cases_Bool}
use Rattle.std.proofs.lemmas.List.{map-append}
use Rattle.std.proofs.lemmas.Slice.Eq.{bytes_eq-Decides}
use Rattle.indexmap.specs.IndexSet.{insert_key}
use Rattle.rl_sets.specs.Sets.{In}
use Rattle.rl_automata.specs.Refused.{AreDifferent}
use Rattle.rl_form.specs.Texts.{Text}

-- ---- lists without an element twice

in_middle : {S : Type 0} (xs : List S) (c : S) (ys : List S) → In c (xs ++ c ∷ ys)
in_middle [] c ys = inl refl
in_middle (x ∷ xs) c ys = inr (in_middle xs c ys)

in_last : {S : Type 0} (xs : List S) (c x : S) → In x (xs ++ c ∷ []) → In x xs ⊎ (c ≡ x)
in_last [] c x (inl e) = inr e
in_last [] c x (inr i) = absurd i
in_last (y ∷ xs) c x (inl e) = inl (inl e)
in_last (y ∷ xs) c x (inr i) = elim (in_last xs c x i) [ inl j ↦ inl (inr j) | inr e ↦ inr e ]

-- one more, which was not there
pub apart_push : {S : Type 0} (xs : List S) (c : S) → (In c xs → ⊥) → AreDifferent xs → AreDifferent (xs ++ c ∷ [])
apart_push [] c n d = ((λ i. i), tt)
apart_push (x ∷ xs) c n d = ((λ i. elim (in_last xs c x i) [ inl j ↦ d.0 j | inr e ↦ n (inl (sym e)) ]), apart_push xs c (λ i. n (inr i)) d.1)

-- one more, which was there
pub not_apart : {S : Type 0} (xs : List S) (c : S) (ys : List S) → In c xs → AreDifferent (xs ++ c ∷ ys) → ⊥
not_apart [] c ys i d = i
not_apart (x ∷ xs) c ys (inl e) d = d.0 (subst (λ z. In z (xs ++ c ∷ ys)) (sym e) (in_middle xs c ys))
not_apart (x ∷ xs) c ys (inr i) d = not_apart xs c ys i d.1

-- ---- sets of texts

abbrev pub text_alike : Text → Text → Bool
text_alike a b = bytes_eq a.now b.now

found : (name : List ℕ) (keys : List Text) → list_any (λ k. bytes_eq name k.now) keys ≡ true → In name (map (λ k. k.now) keys)
found name [] h = absurd cc
found name (k ∷ keys) h = elim (cases_Bool (bytes_eq name k.now)) [
  | inl hit ↦ inl (sym ((bytes_eq-Decides name k.now).0 hit))
  | inr miss ↦ inr (found name keys (sym (ap (λ z. z || list_any (λ k. bytes_eq name k.now) keys) miss) ∙ h))
]

missing : (name : List ℕ) (keys : List Text) → In name (map (λ k. k.now) keys) → list_any (λ k. bytes_eq name k.now) keys ≡ true
missing name [] i = absurd i
missing name (k ∷ keys) (inl e) = ap (λ z. z || list_any (λ k. bytes_eq name k.now) keys) ((bytes_eq-Decides name k.now).1 (sym e))
missing name (k ∷ keys) (inr i) = elim (cases_Bool (bytes_eq name k.now)) [
  | inl hit ↦ ap (λ z. z || list_any (λ k. bytes_eq name k.now) keys) hit
  | inr miss ↦ ap (λ z. z || list_any (λ k. bytes_eq name k.now) keys) miss ∙ missing name keys i
]

pub is_new : (name : List ℕ) (keys : List Text) (b : Bool) → b ≡ not (list_any (λ k. bytes_eq name k.now) keys) → b ≡ true → In name (map (λ k. k.now) keys) → ⊥
is_new name keys b e t i = true≢false (sym t ∙ (e ∙ ap not (missing name keys i)))

pub is_known : (name : List ℕ) (keys : List Text) (b : Bool) → b ≡ not (list_any (λ k. bytes_eq name k.now) keys) → b ≡ false → In name (map (λ k. k.now) keys)
is_known name keys b e f = elim (cases_Bool (list_any (λ (k : Text). bytes_eq name k.now) keys)) [
  | inl hit ↦ found name keys hit
  | inr miss ↦ absurd (true≢false (sym (e ∙ ap not miss) ∙ f))
]

pub one_more : (text : Text) (keys : List Text) (b : Bool) → b ≡ not (list_any (λ k. bytes_eq text.now k.now) keys) → b ≡ true → map (λ k. k.now) (insert_key text_alike keys text) ≡ map (λ k. k.now) keys ++ text.now ∷ []
one_more text keys b e t = elim (cases_Bool (list_any (λ (k : Text). bytes_eq text.now k.now) keys)) [
  | inl hit ↦ absurd (true≢false (sym t ∙ (e ∙ ap not hit)))
  | inr miss ↦ ap (λ z. map (λ (k : Text). k.now) (cond z keys (keys ++ text ∷ []))) miss ∙ map-append (λ (k : Text). k.now) keys (text ∷ [])
]

-- ---- one element after the other

module _ {X : Type 0} (f : X → List ℕ) (names : List (List ℕ)) (xs : List X) (i : ℕ) (x : X) where
  cut : i < length xs → x ≡ get_or xs i x → map f (drop i xs) ≡ f x ∷ map f (drop (i + 1) xs)
  cut less is = ap (map f) (drop-cons xs i x less ∙ (ap (λ y. y ∷ drop (suc i) xs) (sym is) ∙ ap (λ n. x ∷ drop n xs) (sym (add-one i))))

  -- where all are apart, what is put was not there
  pub is_put : (b : Bool) → i < length xs → x ≡ get_or xs i x → (b ≡ false → In (f x) names) → names ++ map f (drop i xs) ≡ map f xs → AreDifferent (map f xs) → b ≡ true
  is_put b less is known same apart = elim (cases_Bool b) [
    | inl put ↦ put
    | inr there ↦ absurd (not_apart names (f x) (map f (drop (i + 1) xs)) (known there) (subst AreDifferent (sym same ∙ ap (λ z. names ++ z) (cut less is)) apart))
  ]

  pub follows : (more : List (List ℕ)) → i < length xs → x ≡ get_or xs i x → more ≡ names ++ f x ∷ [] → names ++ map f (drop i xs) ≡ map f xs → more ++ map f (drop (i + 1) xs) ≡ map f xs
  follows more less is noted same = ap (λ z. z ++ map f (drop (i + 1) xs)) noted ∙ (append_assoc names (f x ∷ []) (map f (drop (i + 1) xs)) ∙ (sym (ap (λ z. names ++ z) (cut less is)) ∙ same))

  pub goes_on : (more : List (List ℕ)) → i < length xs → x ≡ get_or xs i x → (In (f x) names → ⊥) → more ≡ names ++ f x ∷ [] → AreDifferent names → names ++ map f (drop i xs) ≡ map f xs → AreDifferent more × (more ++ map f (drop (i + 1) xs) ≡ map f xs)
  goes_on more less is new noted apart same = (
    subst AreDifferent (sym noted) (apart_push names (f x) new apart),
    follows more less is noted same,
  )

  pub ends : i < length xs → x ≡ get_or xs i x → In (f x) names → names ++ map f (drop i xs) ≡ map f xs → IsTrue false ↔ AreDifferent (map f xs)
  ends less is known same = (
    (λ t. absurd (true≢false (sym t))),
    (λ d. absurd (not_apart names (f x) (map f (drop (i + 1) xs)) known (subst AreDifferent (sym same ∙ ap (λ z. names ++ z) (cut less is)) d))),
  )
