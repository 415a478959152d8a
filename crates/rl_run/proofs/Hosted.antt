-- A closure that answers by a function of its calls so far makes that function's run.
use Rattle.std.proofs.Common.{◌≡◌, List, [], ◌∷◌, ◌++◌, refl, ap, subst}
use Rattle.rl_run.specs.declared.calls.Answer.{Answer}
use Rattle.rl_run.specs.declared.calls.Call.{Call}
use Rattle.rl_run.specs.Hosted.{hosted}
use Rattle.rl_run.specs.Play.{Play, done, ask, Plays}

abbrev pair : {A : Type 0} → List Call → A → List Call × A
pair calls a = (calls, a)

module _ {A H : Type 0} (step : H → Call → Answer → H → Type 0) (host : List Call → Answer) (calls_of : H → List Call)
    (answers : (h : H) (c : Call) (x : Answer) (k : H) → step h c x k → (x ≡ host (calls_of h ++ c ∷ [])) × (calls_of k ≡ calls_of h ++ c ∷ [])) where
  pub hosted_play : (h last : H) (p : Play A) (a : A) → Plays step h p last a → hosted host (calls_of h) p ≡ (calls_of last, a)
  hosted_play h last (done x) a (e, f) = pair_same (calls_of h) (calls_of last) x a (ap calls_of e) f
    where
      pair_same : (u v : List Call) (x a : A) → u ≡ v → x ≡ a → pair u x ≡ pair v a
      pair_same u v x a e f = subst (λ w. pair u x ≡ pair w a) e (subst (λ w. pair u x ≡ pair u w) f refl)
  hosted_play h last (ask c f) a (x, mid, s, p) =
      let told = answers h c x mid s in
      let rest = hosted_play mid last (f x) a p in
      let past = rw told.1 at rest in
      subst (λ y. hosted host (calls_of h ++ c ∷ []) (f y) ≡ (calls_of last, a)) told.0 past
