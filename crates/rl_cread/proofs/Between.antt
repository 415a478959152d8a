-- What stands between a front and a back.
use Rattle.std.proofs.Common.{◌≡◌, ℕ, List, ◌++◌, Option, Some, None, sym, ap, ◌∙◌}
use Rattle.std.specs.Prelude.{MatchOption, Result, Ok, Err, IfOk}
use Rattle.std.proofs.lemmas.List.{append_cancel_left, append_cancel_right}
use denote.Ref.{Bor}

pub between : (text front rest back : List ℕ) (r : Option (Bor (List ℕ))) → text ≡ front ++ rest
    → MatchOption r ((f : List ℕ) → rest ≡ f ++ back → ⊥) (λ x. rest ≡ x.now ++ back)
    → MatchOption r ((mid : List ℕ) → text ≡ front ++ (mid ++ back) → ⊥) (λ x. text ≡ front ++ (x.now ++ back))
between text front rest back None a h = λ mid e. h mid (append_cancel_left front rest (mid ++ back) (sym a ∙ e))
between text front rest back (Some x) a h = a ∙ ap (λ t. front ++ t) h

line_option : {A : Type 0} (front back : List ℕ) (f : A → List ℕ) (P : A → Type 0) (text mid : List ℕ) (o : Option A) → text ≡ front ++ (mid ++ back)
    → MatchOption o ((x : A) → P x → mid ≡ f x → ⊥) (λ x. P x × (mid ≡ f x)) → MatchOption o ((x : A) → P x → text ≡ front ++ (f x ++ back) → ⊥) (λ x. P x × (text ≡ front ++ (f x ++ back)))
line_option front back f P text mid None e h = λ x p k. h x p (append_cancel_right mid (f x) back (append_cancel_left front (mid ++ back) (f x ++ back) (sym e ∙ k)))
line_option front back f P text mid (Some x) e h = (h.0, e ∙ ap (λ t. front ++ (t ++ back)) h.1)

-- what is read between a front and a back is read of the line
pub line_result : {A E : Type 0} (front back : List ℕ) (f : A → List ℕ) (P : A → Type 0) (text mid : List ℕ) (r : Result (Option A) E)
    → text ≡ front ++ (mid ++ back)
    → IfOk r (λ o. MatchOption o ((x : A) → P x → mid ≡ f x → ⊥) (λ x. P x × (mid ≡ f x))) → IfOk r (λ o. MatchOption o ((x : A) → P x → text ≡ front ++ (f x ++ back) → ⊥) (λ x. P x × (text ≡ front ++ (f x ++ back))))
line_result front back f P text mid (Ok o) e h = line_option front back f P text mid o e h
line_result front back f P text mid (Err x) e h = tt
