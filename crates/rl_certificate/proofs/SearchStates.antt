-- The first words to all states, in the order of the states.
use Rattle.std.proofs.Common.{◌≡◌, ℕ, ◌+◌, ◌-◌, ◌<◌, ◌≤◌, true, List, [], ◌∷◌, ◌++◌, map, length, refl, ap, sym, ◌∙◌, subst, inl, inr, ◌⊎◌, arith}
use Rattle.std.specs.List.{All, range_with_len}
use Rattle.rl_sets.specs.Sets.{In}
use Rattle.rl_sets.proofs.SetLaws.{In-append_cases}
use Rattle.rl_fsm.proofs.PieceLaws.{All-In, All-from_In}
use Rattle.rl_minimal.specs.Minimal.{Minimal}
use Rattle.rl_certificate.specs.declared.certificate.Access.{Access}
use Rattle.rl_certificate.specs.Walks.{LeadsTo}
use Rattle.rl_certificate.specs.Certificates.{IsAccess}
use Rattle.rl_certificate.specs.Reduced.{IsReduced}
use Rattle.rl_certificate.specs.Firsts.{AccessBefore, IsFirstAccess}
use Rattle.rl_certificate.specs.Reaches.{IsClosed, is_met}
use Rattle.rl_certificate.proofs.ReachLaws.{all_met, first_access}
use Rattle.rl_certificate.proofs.SearchEdges.{word_is_met}
use Rattle.rl_certificate.proofs.SearchLetters.{mapped_more}

-- each state but Error has a word
pub each_met : (m : Minimal) (met : List Access) → IsClosed m met → IsReduced m → (s : ℕ) → 0 < s → s < length m.states → is_met met s ≡ true
each_met m met c r s z h =
    let p = r.reached s z h in
    let k = all_met m met c p.entry p.word s p.leads in
    word_is_met met s k.access k.there k.leads

-- a copy of a word that was met is the first one
pub copied_first : (m : Minimal) (met : List Access) → IsClosed m met → (a b : Access) → In a met → b.state ≡ a.state → b.entry.0 ≡ a.entry.0
    → b.word.items ≡ a.word.items → IsFirstAccess m b
copied_first m met c a b i s e w =
    let f = first_access m met c a i in
    record {
      leads = subst (LeadsTo m b.entry.0 b.word.items) (sym s) (subst (λ x. LeadsTo m x b.word.items a.state) (sym e) (subst
          (λ x. LeadsTo m a.entry.0 x a.state) (sym w) f.leads));
      first = λ g v h k. f.first g v (subst (LeadsTo m g v) s h) (subst (λ x. AccessBefore g v x a.word.items) e (subst (AccessBefore g v b.entry.0) w k));
    }

-- the first words to the states below this one
pub record AreFirst (m : Minimal) (access : List Access) (state : ℕ) : Type 0 where
  pub above : 1 ≤ state
  pub states : map (λ (a : Access). a.state) access ≡ range_with_len 1 (state - 1)
  pub each : All (IsFirstAccess m) access

same_map : (xs : List ℕ) → map (λ x. x) xs ≡ xs
same_map [] = refl
same_map (x ∷ xs) = ap (λ w. x ∷ w) (same_map xs)

pub first_none : (m : Minimal) → AreFirst m [] 1
first_none m = record { above = omega arith; states = refl; each = All-from_In (IsFirstAccess m) [] (λ a i. absurd i) }

pub first_more : (m : Minimal) (access : List Access) (state : ℕ) (a : Access) → AreFirst m access state → a.state ≡ state → IsFirstAccess m a
    → AreFirst m (access ++ a ∷ []) (state + 1)
first_more m access state a k q f = record {
  above = omega arith;
  states =
      mapped_more (λ (a : Access). a.state) (λ x. x) access a 1 (state - 1) (k.states ∙ sym (same_map (range_with_len 1 (state - 1))))
      (q ∙ (let h : 1 ≤ state = k.above in let e : state ≡ 1 + (state - 1) = omega arith in e))
      ∙ same_map (range_with_len 1 (state - 1 + 1))
      ∙ ap (range_with_len 1) (let h : 1 ≤ state = k.above in let e : state - 1 + 1 ≡ state + 1 - 1 = omega arith in e);
  each = All-from_In (IsFirstAccess m) (access ++ a ∷ []) (λ b i. by b (In-append_cases b access (a ∷ []) i));
}
  where
    by : (b : Access) → In b access ⊎ In b (a ∷ []) → IsFirstAccess m b
    by b (inl i) = All-In (IsFirstAccess m) access b k.each i
    by b (inr (inl e)) = subst (IsFirstAccess m) e f
    by b (inr (inr n)) = absurd n

-- the first words lead to their states
pub first_lead : (m : Minimal) (access : List Access) → All (IsFirstAccess m) access → All (IsAccess m) access
first_lead m access f = All-from_In (IsAccess m) access (λ a i. (All-In (IsFirstAccess m) access a f i).leads)
