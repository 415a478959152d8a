-- What tables say of a key after an insertion.
use Rattle.std.proofs.Common.{◌≡◌, ℕ, Bool, true, false, cond, ◌&&◌, ◌==◌, List, [], ◌∷◌, Option, Some, None, is_some, unwrap_or, inl, inr, refl, sym, ap, ◌∙◌, subst, arith}
use Rattle.std.specs.Bool.{then_some}
use Rattle.std.specs.Map.{lookup}
use Rattle.std.specs.Option.{option_or}
use Rattle.std.specs.Str.{bytes_eq}
use Rattle.std.proofs.lemmas.Bool.{cases_Bool}
use Rattle.std.proofs.lemmas.Bool.Decides.{nat_tests}
use Rattle.std.proofs.lemmas.Slice.Eq.{bytes_eq-Decides}
use Rattle.indexmap.specs.IndexMap.{insert_entry}
use Rattle.rl_run.specs.declared.calls.Answer.{Answer}
use Rattle.rl_playback.specs.Books.{Text, Named, named, same}

abbrev pub Tells : {Z : Type 0} → (Z → Z → Bool) → Type 0
Tells {Z} eq = (a b : Z) → (eq a b ≡ true → a ≡ b) × (a ≡ b → eq a b ≡ true)

false_true : {B : Type 0} → false ≡ true → B
false_true e = absurd (cc)

abbrev pub alike : {K Z : Type 0} → (Z → Z → Bool) → (K → Z) → K → K → Bool
alike eq f a b = eq (f a) (f b)

abbrev pub at : {K A Z : Type 0} → (Z → Z → Bool) → (K → Z) → Z → List (K × A) → Option A
at eq f x es = lookup (λ k. eq x (f k)) es

twice_tested : {A : Type 0} (b : Bool) (p q r : Option A) → cond b p (cond b q r) ≡ cond b p r
twice_tested true p q r = refl
twice_tested false p q r = refl

module _ {K A Z : Type 0} (eq : Z → Z → Bool) (tells : Tells eq) (f : K → Z) where
  swapped : (x k e : Z) (p q r : Option A) → eq k e ≡ false → cond (eq x e) p (cond (eq x k) q r) ≡ cond (eq x k) q (cond (eq x e) p r)
  swapped x k e p q r miss = go (eq x k) refl
    where
      go : (b : Bool) → eq x k ≡ b → cond (eq x e) p (cond b q r) ≡ cond b q (cond (eq x e) p r)
      go false h = refl
      go true h = ap (λ z. cond z p q) (ap (λ z. eq z e) ((tells x k).0 h) ∙ miss)

  pub lookup_insert : (x : Z) (key : K) (v : A) (es : List (K × A)) → at eq f x (insert_entry (alike eq f) es key v) ≡ cond (eq x (f key)) (Some v) (at eq f x es)
  lookup_insert x key v [] = refl
  lookup_insert x key v (e ∷ es) = elim (cases_Bool (eq (f key) (f e.0))) [
    | inl hit ↦
        let new : at eq f x (insert_entry (alike eq f) (e ∷ es) key v) ≡ cond (eq x (f e.0)) (Some v) (at eq f x es) = ap (λ z. at eq f x (cond z ((e.0, v) ∷ es) (e ∷ insert_entry (alike eq f) es key v))) hit in
        let old : cond (eq x (f key)) (Some v) (cond (eq x (f e.0)) (Some e.1) (at eq f x es)) ≡ cond (eq x (f e.0)) (Some v) (at eq f x es) =
        ap (λ z. cond (eq x z) (Some v) (cond (eq x (f e.0)) (Some e.1) (at eq f x es))) ((tells (f key) (f e.0)).0 hit) ∙ twice_tested (eq x (f e.0)) (Some v) (Some e.1) (at eq f x es) in
        new ∙ sym old
    | inr miss ↦
        let new : at eq f x (insert_entry (alike eq f) (e ∷ es) key v) ≡ cond (eq x (f e.0)) (Some e.1) (at eq f x (insert_entry (alike eq f) es key v)) =
        ap (λ z. at eq f x (cond z ((e.0, v) ∷ es) (e ∷ insert_entry (alike eq f) es key v))) miss in
        new ∙ (ap (cond (eq x (f e.0)) (Some e.1)) (lookup_insert x key v es) ∙ swapped x (f key) (f e.0) (Some e.1) (Some v) (at eq f x es) miss)
  ]

both : (a b : Bool) → a && b ≡ true → (a ≡ true) × (b ≡ true)
both true true e = (refl, refl)
both true false e = false_true e
both false b e = false_true e

pub same_tells : Tells same
same_tells p q = (
  λ e.
      let (h, k) = both (bytes_eq p.0 q.0) (bytes_eq p.1 q.1) e in
      let P : List ℕ → Type 0 = λ u. p ≡ (u, p.1) in
      let Q : List ℕ → Type 0 = λ u. p ≡ (q.0, u) in
      subst Q ((bytes_eq-Decides p.1 q.1).0 k) (subst P ((bytes_eq-Decides p.0 q.0).0 h) refl),
  λ e.
      let P : Named → Type 0 = λ u. same p u ≡ true in
      subst P e (ap (λ b. b && bytes_eq p.1 p.1) ((bytes_eq-Decides p.0 p.0).1 refl) ∙ (bytes_eq-Decides p.1 p.1).1 refl),
)

-- a name's number, or the name and a count
abbrev pub same_call : Named × ℕ → Named × ℕ → Bool
same_call a b = same a.0 b.0 && a.1 == b.1

number_same : (n k : ℕ) → n == k ≡ true → n ≡ k
number_same n k e = grind (arith, nat_tests)

number_equal : (n : ℕ) → n == n ≡ true
number_equal n = grind (arith, nat_tests)

pub same_call_tells : Tells same_call
same_call_tells a b = (
  λ e.
      let (h, k) = both (same a.0 b.0) (a.1 == b.1) e in
      let P : Named → Type 0 = λ u. a ≡ (u, a.1) in
      let Q : ℕ → Type 0 = λ u. a ≡ (b.0, u) in
      subst Q (number_same a.1 b.1 k) (subst P ((same_tells a.0 b.0).0 h) refl),
  λ e.
      let P : Named × ℕ → Type 0 = λ u. same_call a u ≡ true in
      subst P e (ap (λ b. b && a.1 == a.1) ((same_tells a.0 a.0).1 refl) ∙ number_equal a.1),
)

unwrapped : (b : Bool) (v : ℕ) (r : Option ℕ) → unwrap_or (cond b (Some v) r) 0 ≡ cond b v (unwrap_or r 0)
unwrapped true v r = refl
unwrapped false v r = refl

abbrev pub named_alike : Text × Text → Text × Text → Bool
named_alike p q = same (named p) (named q)

pub count_set : (q : Named) (key : Text × Text) (v : ℕ) (es : List ((Text × Text) × ℕ)) →
    unwrap_or (lookup (λ k. same q (named k)) (insert_entry named_alike es key v)) 0 ≡ cond (same q (named key)) v (unwrap_or (lookup (λ k. same q (named k)) es) 0)
count_set q key v es =
    ap (λ z. unwrap_or z 0) (lookup_insert same same_tells named q key v es) ∙ unwrapped (same q (named key)) v (lookup (λ k. same q (named k)) es)

abbrev pub call_of : (Text × Text) × ℕ → Named × ℕ
call_of k = (named k.0, k.1)

abbrev pub call_alike : (Text × Text) × ℕ → (Text × Text) × ℕ → Bool
call_alike a b = same_call (call_of a) (call_of b)

abbrev pub Entries : Type 0
Entries = List (((Text × Text) × ℕ) × Answer)

abbrev pub answer_at : Named → ℕ → Entries → Option Answer
answer_at q n es = lookup (λ k. same_call (q, n) (call_of k)) es

-- an answer that stands already
pub stands_already : (q : Named) (n : ℕ) (p : Named) (k : ℕ) (x : Answer) (es : Entries) → is_some (answer_at p k es) ≡ true →
    answer_at q n es ≡ option_or (answer_at q n es) (then_some (same q p && n == k) x)
stands_already q n p k x es there = go (same q p && n == k) refl
  where
    some : (o : Option Answer) → is_some o ≡ true → o ≡ option_or o (Some x)
    some (Some y) e = refl
    some None e = false_true e

    none : (o : Option Answer) → o ≡ option_or o None
    none (Some y) = refl
    none None = refl

    go : (b : Bool) → same q p && n == k ≡ b → answer_at q n es ≡ option_or (answer_at q n es) (then_some b x)
    go true e =
        some (answer_at q n es)
        (ap (λ (c : Named × ℕ). is_some (lookup (λ k. same_call c (call_of k)) es)) ((same_call_tells (q, n) (p, k)).0 e) ∙ there)
    go false e = none (answer_at q n es)

-- and one that is put there
pub put_there : (q : Named) (n : ℕ) (key : (Text × Text) × ℕ) (x : Answer) (es : Entries) → is_some (answer_at (named key.0) key.1 es) ≡ false →
    answer_at q n (insert_entry call_alike es key x) ≡ option_or (answer_at q n es) (then_some (same q (named key.0) && n == key.1) x)
put_there q n key x es absent =
    lookup_insert same_call same_call_tells call_of (q, n) key x es ∙ go (same q (named key.0) && n == key.1) refl
  where
    some : (o : Option Answer) → is_some o ≡ false → Some x ≡ option_or o (Some x)
    some (Some y) e = false_true (sym e)
    some None e = refl

    none : (o : Option Answer) → o ≡ option_or o None
    none (Some y) = refl
    none None = refl

    go : (b : Bool) → same q (named key.0) && n == key.1 ≡ b → cond b (Some x) (answer_at q n es) ≡ option_or (answer_at q n es) (then_some b x)
    go true e =
        some (answer_at q n es)
        (ap (λ (c : Named × ℕ). is_some (lookup (λ k. same_call c (call_of k)) es)) ((same_call_tells (q, n) (call_of key)).0 e) ∙ absent)
    go false e = none (answer_at q n es)
