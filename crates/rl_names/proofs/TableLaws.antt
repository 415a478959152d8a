-- Tables of names: what look-ups and insertions say of the names themselves.
use Rattle.std.proofs.Common.{◌≡◌, ℕ, ◌+◌, Bool, true, false, cond, ltb, List, [], ◌∷◌, ◌++◌, length, map, position, Option, Some, None, inl, inr, refl, sym, ap, ◌∙◌}
use Rattle.std.specs.Prelude.{not, ◌||◌, unwrap_or}
use Rattle.std.specs.List.{list_any, position_or_len}
use Rattle.std.specs.Map.{lookup}
use Rattle.std.specs.Str.{bytes_eq}
use Rattle.std.proofs.lemmas.Bool.{cases_Bool}
use Rattle.std.proofs.lemmas.List.{length-map, map-append}
use Rattle.std.proofs.lemmas.Slice.Eq.{bytes_eq-Decides}
use Rattle.indexmap.specs.IndexMap.{insert_entry}
use Rattle.indexmap.specs.IndexSet.{insert_key}
use Rattle.rl_names.specs.Frames.{with_name}
use Rattle.rl_names.specs.Names.{Named, same}
use Rattle.rl_names.specs.TableForms.{Text, named}

abbrev pub alike : Text × Text → Text × Text → Bool
alike p q = same (named p) (named q)

abbrev pub text_alike : Text → Text → Bool
text_alike a b = bytes_eq a.now b.now

abbrev pub shape : {A : Type 0} → (Text × Text) × A → Named × A
shape e = (named e.0, e.1)

-- ---- names with what is said of them

pub lookup_named : {A : Type 0} (p : Named) (es : List ((Text × Text) × A)) → lookup (λ k. same p (named k)) es ≡ lookup (same p) (map shape es)
lookup_named p [] = refl
lookup_named p (e ∷ es) = ap (cond (same p (named e.0)) (Some e.1)) (lookup_named p es)

some_none : {A B : Type 0} (x : A) → Some x ≡ None → B
some_none x e = absurd (cc)

pub defined_more : {A : Type 0} (p : Text × Text) (v : A) (es : List ((Text × Text) × A)) → lookup (same (named p)) (map shape es) ≡ None
    → map shape (insert_entry alike es p v) ≡ map shape es ++ ((named p, v) ∷ [])
defined_more p v [] h = refl
defined_more p v (e ∷ es) h = elim (cases_Bool (same (named p) (named e.0))) [
  | inl hit ↦ some_none e.1 (sym (ap (λ z. cond z (Some e.1) (lookup (same (named p)) (map shape es))) hit) ∙ h)
  | inr miss ↦
      let rest : lookup (same (named p)) (map shape es) ≡ None = sym (ap (λ z. cond z (Some e.1) (lookup (same (named p)) (map shape es))) miss) ∙ h in
      ap (λ z. map shape (cond z ((e.0, v) ∷ es) (e ∷ insert_entry alike es p v))) miss
      ∙ ap (λ z. shape e ∷ z) (defined_more p v es rest)
]

-- ---- names alone

pub any_named : (p : Named) (ks : List (Text × Text)) → list_any (λ k. same p (named k)) ks ≡ list_any (same p) (map named ks)
any_named p [] = refl
any_named p (k ∷ ks) = ap (λ z. same p (named k) || z) (any_named p ks)

pub named_more : (p : Text × Text) (ks : List (Text × Text)) → list_any (same (named p)) (map named ks) ≡ false
    → map named (insert_key alike ks p) ≡ map named ks ++ (named p ∷ [])
named_more p ks h =
    ap (λ z. map named (cond z ks (ks ++ p ∷ []))) (any_named (named p) ks ∙ h) ∙ map-append named ks (p ∷ [])

pub any_text : (name : List ℕ) (keys : List Text) → list_any (λ k. bytes_eq name k.now) keys ≡ list_any (bytes_eq name) (map (λ k. k.now) keys)
any_text name [] = refl
any_text name (k ∷ keys) = ap (λ z. bytes_eq name k.now || z) (any_text name keys)

pub text_more : (name : Text) (keys : List Text) → map (λ k. k.now) (insert_key text_alike keys name) ≡ with_name (map (λ k. k.now) keys) name.now
text_more name keys = elim (cases_Bool (list_any (bytes_eq name.now) (map (λ (k : Text). k.now) keys))) [
  | inl hit ↦
      ap (λ z. map (λ (k : Text). k.now) (cond z keys (keys ++ name ∷ []))) (any_text name.now keys ∙ hit)
      ∙ sym (ap (λ z. cond z (map (λ (k : Text). k.now) keys) (map (λ (k : Text). k.now) keys ++ name.now ∷ [])) hit)
  | inr miss ↦
      ap (λ z. map (λ (k : Text). k.now) (cond z keys (keys ++ name ∷ []))) (any_text name.now keys ∙ miss)
      ∙ (map-append (λ (k : Text). k.now) keys (name ∷ [])
      ∙ sym (ap (λ z. cond z (map (λ (k : Text). k.now) keys) (map (λ (k : Text). k.now) keys ++ name.now ∷ [])) miss))
]

front_text : (name : List ℕ) (keys : List Text) → position_or_len (λ k. bytes_eq name k.now) keys ≡ position_or_len (bytes_eq name) (map (λ k. k.now) keys)
front_text name [] = refl
front_text name (k ∷ keys) = ap (λ z. cond (not (bytes_eq name k.now)) (1 + z) 0) (front_text name keys)

pub position_text : (name : List ℕ) (keys : List Text) → position (λ k. bytes_eq name k.now) keys ≡ position (bytes_eq name) (map (λ k. k.now) keys)
position_text name keys =
    let place : position_or_len (λ k. bytes_eq name k.now) keys ≡ position_or_len (bytes_eq name) (map (λ k. k.now) keys) = front_text name keys in
    ap (λ z. cond (ltb z (length keys)) (Some z) None) place
    ∙ ap (λ z. cond (ltb (position_or_len (bytes_eq name) (map (λ k. k.now) keys)) z) (Some (position_or_len (bytes_eq name) (map (λ k. k.now) keys))) None) (sym (length-map keys (λ (k : Text). k.now)))

-- ---- what is told of texts

pub told_more : {A : Type 0} (x : List ℕ) (key : Text) (v : A) (es : List (Text × A))
    → lookup (λ k. bytes_eq x k.now) (insert_entry text_alike es key v) ≡ cond (bytes_eq x key.now) (Some v) (lookup (λ k. bytes_eq x k.now) es)
told_more x key v [] = refl
told_more {A} x key v (e ∷ es) =
    let at = λ (l : List (Text × A)). lookup (λ k. bytes_eq x k.now) l in
    elim (cases_Bool (bytes_eq key.now e.0.now)) [
      | inl hit ↦
          let alike_key : key.now ≡ e.0.now = (bytes_eq-Decides key.now e.0.now).0 hit in
          let new : at (insert_entry text_alike (e ∷ es) key v) ≡ cond (bytes_eq x e.0.now) (Some v) (at es) = ap (λ z. at (cond z ((e.0, v) ∷ es) (e ∷ insert_entry text_alike es key v))) hit in
          let old : cond (bytes_eq x key.now) (Some v) (cond (bytes_eq x e.0.now) (Some e.1) (at es)) ≡ cond (bytes_eq x e.0.now) (Some v) (at es) =
          ap (λ z. cond (bytes_eq x z) (Some v) (cond (bytes_eq x e.0.now) (Some e.1) (at es))) alike_key ∙ twice_tested (bytes_eq x e.0.now) (Some v) (Some e.1) (at es) in
          new ∙ sym old
      | inr miss ↦
          let new : at (insert_entry text_alike (e ∷ es) key v) ≡ cond (bytes_eq x e.0.now) (Some e.1) (at (insert_entry text_alike es key v)) =
          ap (λ z. at (cond z ((e.0, v) ∷ es) (e ∷ insert_entry text_alike es key v))) miss in
          new ∙ (ap (cond (bytes_eq x e.0.now) (Some e.1)) (told_more x key v es) ∙ swapped x key.now e.0.now (Some e.1) (Some v) (at es) miss)
    ]
  where
    twice_tested : {A : Type 0} (b : Bool) (p q r : A) → cond b p (cond b q r) ≡ cond b p r
    twice_tested true p q r = refl
    twice_tested false p q r = refl

    swapped : {A : Type 0} (x k e : List ℕ) (p q r : A) → bytes_eq k e ≡ false → cond (bytes_eq x e) p (cond (bytes_eq x k) q r) ≡ cond (bytes_eq x k) q (cond (bytes_eq x e) p r)
    swapped x k e p q r miss = elim (cases_Bool (bytes_eq x k)) [
      | inr other ↦
          ap (λ z. cond (bytes_eq x e) p (cond z q r)) other ∙ sym (ap (λ z. cond z q (cond (bytes_eq x e) p r)) other)
      | inl hit ↦
          let alike_key : x ≡ k = (bytes_eq-Decides x k).0 hit in
          let apart : bytes_eq x e ≡ false = ap (λ z. bytes_eq z e) alike_key ∙ miss in
          ap (λ z. cond z p (cond (bytes_eq x k) q r)) apart ∙ (ap (λ z. cond z q r) hit ∙ sym (ap (λ z. cond z q (cond (bytes_eq x e) p r)) hit))
    ]

unwrapped : {A : Type 0} (other : A) (b : Bool) (v : A) (r : Option A) → unwrap_or (cond b (Some v) r) other ≡ cond b v (unwrap_or r other)
unwrapped other true v r = refl
unwrapped other false v r = refl

pub told_set : {A : Type 0} (other : A) (x : List ℕ) (key : Text) (v : A) (es : List (Text × A))
    → unwrap_or (lookup (λ k. bytes_eq x k.now) (insert_entry text_alike es key v)) other ≡ cond (bytes_eq x key.now) v (unwrap_or (lookup (λ k. bytes_eq x k.now) es) other)
told_set other x key v es = ap (λ z. unwrap_or z other) (told_more x key v es) ∙ unwrapped other (bytes_eq x key.now) v (lookup (λ k. bytes_eq x k.now) es)

-- a text that is not there
pub text_new : (names : List (List ℕ)) (name : List ℕ) → list_any (bytes_eq name) names ≡ false → with_name names name ≡ names ++ name ∷ []
text_new names name miss = ap (λ z. cond z names (names ++ name ∷ [])) miss
