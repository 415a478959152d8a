-- Of Specs that say the same, the same node is refused.
use Rattle.std.proofs.Common.{◌≡◌, ◌∙◌, ℕ, zero, suc, ◌-◌, nat_lt, cond, List, [], ◌∷◌, map, length, slice_get, Option, Some, None, option_map, inl, inr, refl, sym, ap, subst}
use Rattle.rl_types.specs.declared.numbers.Place.{Place}
use Rattle.rl_automata.specs.Refused as cause
use Rattle.rl_automata.specs.Refused.{Cause, IsRefusal, AreBuildable}
use Rattle.rl_automata.proofs.RefusalLaws.{one_refusal, refused_or_built}
use Rattle.rl_model.specs.declared.spec.Pattern as rust
use Rattle.rl_model.specs.declared.spec.Root as rust_root
use Rattle.rl_model.specs.declared.spec.Root.TheVariants as R
use Rattle.rl_model.specs.declared.spec.Entry as rust_entry
use Rattle.rl_model.specs.declared.spec.Spec.{Spec}
use Rattle.rl_model.specs.Specification.{specification_of, roots_of}
use Rattle.rl_model.specs.WellFormed.{pattern_places}
use Rattle.rl_model.specs.RefusedNode.{IsRefusedAt, IsBuildable, pattern_place, cause_place, place_at}
use Rattle.rl_includes.specs.declared.unrolled.Stop.{Stop}
use Rattle.rl_rewrite.specs.Entries.{Made, made_of}
use Rattle.rl_resolve.specs.Descriptions.{Description, description}
use Rattle.rl_resolve.specs.Refusals.{file_name}
use Rattle.rl_resolve.proofs.ResolveLaws.{same_specification}
use Rattle.rl_compile.specs.Sources.{IsToldAs, IsUnbuilt}
use Rattle.rl_compile.specs.Printing.{is_built, FirstUnbuilt, AreBuilt}

-- ---- what a description tells

-- the place at which a node of an entry is refused: for a pattern of the empty word the pattern's, else the node's
abbrev cause_made : Made → ℕ → Cause → Option Place
cause_made m i cause.L6 = slice_get m.places i
cause_made m i cause.L8 = slice_get m.places i
cause_made m i cause.F15 = slice_get m.places i
cause_made m i (cause.F12 j) = slice_get m.pattern_places j

-- the same of a node among entries
abbrev place_made : List Made → ℕ → Cause → Option Place
place_made [] i c = None
place_made (m ∷ ms) i c = cond (nat_lt i (length m.places)) (cause_made m i c) (place_made ms (i - length m.places) c)

mapped_at : {X Y : Type 0} (f : X → Y) (xs : List X) (j : ℕ) → option_map f (slice_get xs j) ≡ slice_get (map f xs) j
mapped_at f [] j = refl
mapped_at f (x ∷ xs) zero = refl
mapped_at f (x ∷ xs) (suc j) = mapped_at f xs j

pattern_made : (r : rust_root.Root) (j : ℕ) → pattern_place r j ≡ slice_get (pattern_places r) j
pattern_made (R.Plain t) j = refl
pattern_made (R.Scanner ps) j = mapped_at (λ (p : rust.Pattern). p.place) ps j

cause_is : (c : Cause) (e : rust_entry.Entry) (i : ℕ) → cause_place e i c ≡ cause_made (made_of e) i c
cause_is cause.L6 e i = refl
cause_is cause.L8 e i = refl
cause_is cause.F15 e i = refl
cause_is (cause.F12 j) e i = pattern_made e.root j

places_are : (c : Cause) (es : List rust_entry.Entry) (i : ℕ) → place_at es i c ≡ place_made (map made_of es) i c
places_are c [] i = refl
places_are c (e ∷ es) i =
    ap (λ o. cond (nat_lt i (length e.places)) o (place_at es (i - length e.places) c)) (cause_is c e i)
    ∙ ap (λ o. cond (nat_lt i (length e.places)) (cause_made (made_of e) i c) o) (places_are c es (i - length e.places))

-- ---- what is told

told_once : (c : Cause) (p : Place) (file : List ℕ) (s t : Stop) → IsToldAs c p file s → IsToldAs c p file t → s ≡ t
told_once cause.L6 p file s t h k = h ∙ sym k
told_once cause.L8 p file s t h k = h ∙ sym k
told_once cause.F15 p file s t h k = h ∙ sym k
told_once (cause.F12 j) p file s t h k = h ∙ sym k

some_same : (p q : Place) → Some p ≡ Some q → p ≡ q
some_same p q e = cc

-- ---- two Specs

module _ (a b : Spec) (same : description a ≡ description b) where
  same_roots : roots_of (specification_of a) ≡ roots_of (specification_of b)
  same_roots = ap roots_of (same_specification a b same)

  -- a refusal in the one is one in the other
  moved : (i : ℕ) (c : Cause) → IsRefusal b.alphabet (roots_of (specification_of b)) i c → IsRefusal a.alphabet (roots_of (specification_of a)) i c
  moved i c h =
      subst (λ x. IsRefusal x (roots_of (specification_of a)) i c) (sym (ap (λ (d : Description). d.alphabet) same))
      (subst (λ rs. IsRefusal b.alphabet rs i c) (sym same_roots) h)

  place_once : (c : Cause) (i : ℕ) (p q : Place) → place_at a.entries i c ≡ Some p → place_at b.entries i c ≡ Some q → q ≡ p
  place_once c i p q e f =
      some_same q p (sym f ∙ places_are c b.entries i ∙ sym (ap (λ (d : Description). place_made d.entries i c) same) ∙ sym (places_are c a.entries i) ∙ e)

  -- one stop is told
  pub node_once : (c d : Cause) (p q : Place) (s t : Stop) → IsRefusedAt a c p → IsToldAs c p (file_name a.files p.file) s →
      IsRefusedAt b d q → IsToldAs d q (file_name b.files q.file) t → s ≡ t
  node_once c d p q s t (i, h, e) told (j, k, f) tells =
      let once = one_refusal a.alphabet (roots_of (specification_of a)) i j c d h (moved j d k) in
      let told_d = subst (λ x. IsToldAs x p (file_name a.files p.file) s) once.1 told in
      let here : place_at a.entries j d ≡ Some p = subst (λ n. place_at a.entries n d ≡ Some p) once.0 (subst (λ x. place_at a.entries i x ≡ Some p) once.1 e) in
      let place = place_once d j p q here f in
      let files : b.files ≡ a.files = sym (ap (λ (x : Description). x.files) same) in
      told_once d p (file_name a.files p.file) s t told_d
      (subst (λ fs. IsToldAs d p (file_name fs p.file) t) files (subst (λ x. IsToldAs d x (file_name b.files x.file) t) place tells))

  -- and none where the other is built
  pub refused_not_built : (c : Cause) (p : Place) → IsRefusedAt b c p → IsBuildable a → ⊥
  refused_not_built c p (i, h, e) built = refused_or_built a.alphabet (roots_of (specification_of a)) i c (moved i c h) built

  same_built : is_built a ≡ is_built b
  same_built = ap (λ (d : Description). nat_lt 0 (length d.writes)) same

  unbuilt_once : (s t : Stop) → IsUnbuilt a s → IsUnbuilt b t → s ≡ t
  unbuilt_once s t h k = node_once h.cause k.cause h.place k.place s t h.refused h.told k.refused k.told

  unbuilt_not_built : (t : Stop) → IsUnbuilt b t → IsBuildable a → ⊥
  unbuilt_not_built t k built = refused_not_built k.cause k.place k.refused built

-- ---- lists of Specs

same_heads : (a b : Spec) (xs ys : List Spec) → map description (a ∷ xs) ≡ map description (b ∷ ys) → description a ≡ description b
same_heads a b xs ys e = heads (description a) (description b) (map description xs) (map description ys) e
  where
    heads : (d f : Description) (ds fs : List Description) → d ∷ ds ≡ f ∷ fs → d ≡ f
    heads d f ds fs e = cc

same_tails : (a b : Spec) (xs ys : List Spec) → map description (a ∷ xs) ≡ map description (b ∷ ys) → map description xs ≡ map description ys
same_tails a b xs ys e = tails (description a) (description b) (map description xs) (map description ys) e
  where
    tails : (d f : Description) (ds fs : List Description) → d ∷ ds ≡ f ∷ fs → ds ≡ fs
    tails d f ds fs e = cc

none_same : (a : Spec) (xs : List Spec) → map description (a ∷ xs) ≡ [] → ⊥
none_same a xs e = no_cons (description a) (map description xs) e
  where
    no_cons : (d : Description) (ds : List Description) → d ∷ ds ≡ [] → ⊥
    no_cons d ds e = cc

-- the same machine is the first that is not built
pub first_once : (xs ys : List Spec) (s t : Stop) → map description xs ≡ map description ys → FirstUnbuilt xs s → FirstUnbuilt ys t → s ≡ t
first_once [] ys s t e h k = absurd h
first_once (a ∷ xs) [] s t e h k = absurd k
first_once (a ∷ xs) (b ∷ ys) s t e (inl h) (inl k) = unbuilt_once a b (same_heads a b xs ys e) s t h.1 k.1
first_once (a ∷ xs) (b ∷ ys) s t e (inl h) (inr k) =
    let same = same_heads a b xs ys e in
    absurd (unbuilt_not_built b a (sym same) s h.1 (k.0 (sym (same_built a b same) ∙ h.0)))
first_once (a ∷ xs) (b ∷ ys) s t e (inr h) (inl k) =
    let same = same_heads a b xs ys e in
    absurd (unbuilt_not_built a b same t k.1 (h.0 (same_built a b same ∙ k.0)))
first_once (a ∷ xs) (b ∷ ys) s t e (inr h) (inr k) = first_once xs ys s t (same_tails a b xs ys e) h.1 k.1

-- and where all are built, there is none
pub first_not_built : (xs ys : List Spec) (s : Stop) → map description xs ≡ map description ys → FirstUnbuilt xs s → AreBuilt ys → ⊥
first_not_built [] ys s e h k = h
first_not_built (a ∷ xs) [] s e h k = none_same a xs e
first_not_built (a ∷ xs) (b ∷ ys) s e (inl h) k =
    let same = same_heads a b xs ys e in unbuilt_not_built b a (sym same) s h.1 (k.0 (sym (same_built a b same) ∙ h.0))
first_not_built (a ∷ xs) (b ∷ ys) s e (inr h) k = first_not_built xs ys s (same_tails a b xs ys e) h.1 k.1
