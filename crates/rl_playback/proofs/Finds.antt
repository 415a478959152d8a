-- The sessions of names, when one is put in place of another and when one starts.
use Rattle.std.proofs.Common.{◌≡◌, ℕ, Bool, true, false, cond, List, [], ◌∷◌, ◌++◌, map, Option, Some, None, refl, sym, ◌∙◌, ap}
use Rattle.std.specs.Str.{bytes_eq}
use Rattle.std.proofs.lemmas.Slice.Eq.{bytes_eq-Decides}
use Rattle.rl_sessions.specs.SessionsValue.{SessionValue, find, replaced}
use Rattle.rl_playback.specs.Stands.{AreDistinct}
use Rattle.rl_playback.proofs.Answered.{bytes_turned}

abbrev pub names_of : List SessionValue → List (List ℕ)
names_of all = map (λ (x : SessionValue). x.name) all

abbrev pub found_or : Bool → SessionValue → Option SessionValue → Option SessionValue
found_or b x o = cond b (Some x) o

pub find_name : (s : List ℕ) (xs : List SessionValue) (x : SessionValue) → find s xs ≡ Some x → x.name ≡ s
find_name s [] x e = absurd (cc e)
find_name s (z ∷ xs) x e = go (λ x e. find_name s xs x e) (bytes_eq z.name s) refl e
  where
    same : Some z ≡ Some x → z ≡ x
    same e = cc

    go : ((x : SessionValue) → find s xs ≡ Some x → x.name ≡ s) → (b : Bool) → bytes_eq z.name s ≡ b → found_or b z (find s xs) ≡ Some x → x.name ≡ s
    go ih true f e = ap (λ (v : SessionValue). v.name) (sym (same e)) ∙ (bytes_eq-Decides z.name s).0 f
    go ih false f e = ih x e

self_eq : (s : List ℕ) → bytes_eq s s ≡ true
self_eq s = (bytes_eq-Decides s s).1 refl

module _ (s : List ℕ) (y : SessionValue) (named : y.name ≡ s) where
  y_is : bytes_eq y.name s ≡ true
  y_is = (bytes_eq-Decides y.name s).1 named

  pub find_replaced : (xs : List SessionValue) (x : SessionValue) → find s xs ≡ Some x → find s (replaced s y xs) ≡ Some y
  find_replaced [] x e = absurd (cc e)
  find_replaced (z ∷ xs) x e = go (λ e. find_replaced xs x e) (bytes_eq z.name s) refl e
    where
      go : (find s xs ≡ Some x → find s (replaced s y xs) ≡ Some y) → (b : Bool) → bytes_eq z.name s ≡ b → found_or b z (find s xs) ≡ Some x → find s (cond b (y ∷ xs) (z ∷ replaced s y xs)) ≡ Some y
      go ih true f e = ap (λ b. found_or b y (find s xs)) y_is
      go ih false f e = ap (λ b. found_or b z (find s (replaced s y xs))) f ∙ ih e

  pub find_other : (t : List ℕ) (xs : List SessionValue) → bytes_eq s t ≡ false → find t (replaced s y xs) ≡ find t xs
  find_other t [] e = refl
  find_other t (z ∷ xs) e = go (find_other t xs e) (bytes_eq z.name s) refl
    where
      go : find t (replaced s y xs) ≡ find t xs → (b : Bool) → bytes_eq z.name s ≡ b → find t (cond b (y ∷ xs) (z ∷ replaced s y xs)) ≡ find t (z ∷ xs)
      go ih true f =
          ap (λ b. found_or b y (find t xs)) (ap (λ u. bytes_eq u t) named ∙ e)
          ∙ sym (ap (λ b. found_or b z (find t xs)) (ap (λ u. bytes_eq u t) ((bytes_eq-Decides z.name s).0 f) ∙ e))
      go ih false f = ap (λ o. found_or (bytes_eq z.name t) z o) ih

  pub names_replaced : (xs : List SessionValue) → names_of (replaced s y xs) ≡ names_of xs
  names_replaced [] = refl
  names_replaced (z ∷ xs) = go (names_replaced xs) (bytes_eq z.name s) refl
    where
      go : names_of (replaced s y xs) ≡ names_of xs → (b : Bool) → bytes_eq z.name s ≡ b → names_of (cond b (y ∷ xs) (z ∷ replaced s y xs)) ≡ z.name ∷ names_of xs
      go ih true f = ap (λ u. u ∷ names_of xs) (named ∙ sym ((bytes_eq-Decides z.name s).0 f))
      go ih false f = ap (λ us. z.name ∷ us) ih

  pub distinct_replaced : (xs : List SessionValue) → AreDistinct xs → AreDistinct (replaced s y xs)
  distinct_replaced [] h = tt
  distinct_replaced (z ∷ xs) h = go (distinct_replaced xs h.1) (bytes_eq z.name s) refl
    where
      go : AreDistinct (replaced s y xs) → (b : Bool) → bytes_eq z.name s ≡ b → AreDistinct (cond b (y ∷ xs) (z ∷ replaced s y xs))
      go ih true f = (ap (λ u. find u xs) (named ∙ sym ((bytes_eq-Decides z.name s).0 f)) ∙ h.0, h.1)
      go ih false f = (find_other z.name xs (bytes_turned s z.name ∙ f) ∙ h.0, ih)

  -- a session that starts behind all others
  pub find_started : (xs : List SessionValue) → find s xs ≡ None → find s (xs ++ y ∷ []) ≡ Some y
  find_started [] e = ap (λ b. found_or b y None) y_is
  find_started (z ∷ xs) e = go (λ e. find_started xs e) (bytes_eq z.name s) e
    where
      go : (find s xs ≡ None → find s (xs ++ y ∷ []) ≡ Some y) → (b : Bool) → found_or b z (find s xs) ≡ None → found_or b z (find s (xs ++ y ∷ [])) ≡ Some y
      go ih true e = absurd (cc e)
      go ih false e = ih e

  pub find_beside : (t : List ℕ) (xs : List SessionValue) → bytes_eq s t ≡ false → find t (xs ++ y ∷ []) ≡ find t xs
  find_beside t [] e = ap (λ b. found_or b y None) (ap (λ u. bytes_eq u t) named ∙ e)
  find_beside t (z ∷ xs) e = ap (λ o. found_or (bytes_eq z.name t) z o) (find_beside t xs e)

  pub distinct_started : (xs : List SessionValue) → AreDistinct xs → find s xs ≡ None → AreDistinct (xs ++ y ∷ [])
  distinct_started [] h e = (refl, tt)
  distinct_started (z ∷ xs) h e = go (λ e. distinct_started xs h.1 e) (bytes_eq z.name s) refl e
    where
      go : (find s xs ≡ None → AreDistinct (xs ++ y ∷ [])) → (b : Bool) → bytes_eq z.name s ≡ b → found_or b z (find s xs) ≡ None → (find z.name (xs ++ y ∷ []) ≡ None) × AreDistinct (xs ++ y ∷ [])
      go ih true f e = absurd (cc e)
      go ih false f e = (find_beside z.name xs (bytes_turned s z.name ∙ f) ∙ h.0, ih e)
