-- The numbers of the classes of states.
use Rattle.std.proofs.Common.{◌≡◌, ◌↔◌, ℕ, zero, suc, ◌+◌, ◌<◌, ◌≤◌, Bool, true, false, cond, List, [], ◌∷◌, ◌++◌, ◌⊎◌, map, length, Some, None, Option, slice_get, unwrap_or, take, drop, refl, ap, sym, ◌∙◌, subst, inl, inr, arith, nat_le}
use Rattle.std.specs.List.{list_any, range_with_len}
use Rattle.std.specs.Prelude.{nat_eq}
use Rattle.std.proofs.lemmas.List.{map-append, length-map}
use Rattle.std.proofs.lemmas.Option.{slice_get-map, slice_get_within}
use Rattle.rl_sets.specs.Sets.{In}
use Rattle.rl_sets.proofs.SetLaws.{In-append_cases}
use Rattle.rl_automata.specs.Refused.{AreDifferent}
use Rattle.rl_explore.proofs.NumberLaws.{get_below, get_In, In_get, get_exists, get_front}
use Rattle.rl_automata.proofs.Congruence.{some_in, none_in}
use Rattle.rl_min.specs.Numbering.{has_class, with_class, with_classes, listed, number_in, class_at, ArePicked, IsNumbering}
use Rattle.rl_min.proofs.ListLaws.{added, added_from, extend, differ, number_there, number_of, number_apart, range_maps, map_once, count_from, range_stays, few}

-- ---- one more state

none_picked : (classes : List ℕ) → ArePicked classes [] []
none_picked classes = record { each = refl; there = λ state i. absurd i }

pub picked_first : (classes found states : List ℕ) → found ≡ [] → states ≡ [] → ArePicked classes found states
picked_first classes found states e f = subst (λ k. ArePicked classes k states) (sym e) (subst (λ s. ArePicked classes [] s) (sym f) (none_picked classes))

pub met_first : (classes found : List ℕ) → found ≡ [] → with_classes found classes ≡ listed classes
met_first classes found e = ap (λ k. with_classes k classes) e

pub one_picked : (classes found states : List ℕ) (i x : ℕ) → slice_get classes i ≡ Some x → ArePicked classes found states
    → ArePicked classes (with_class found x) (cond (has_class found x) states (states ++ i ∷ []))
one_picked classes found states i x e p = by (has_class found x)
  where
    by : (b : Bool) → ArePicked classes (cond b found (found ++ x ∷ [])) (cond b states (states ++ i ∷ []))
    by true = p
    by false = record {
      each = map-append (class_at classes) states (i ∷ []) ∙ (λ j. p.each j ++ ap (λ o. unwrap_or o 0) e j ∷ []);
      there = λ s h. elim (In-append_cases s states (i ∷ []) h) [
        | inl a ↦ p.there s a
        | inr (inl q) ↦ subst (λ w. w < length classes) q (get_below classes i x e)
        | inr (inr z) ↦ absurd z
      ];
    }

pub few_listed : (classes : List ℕ) → length (listed classes) ≤ length classes
few_listed classes = let r : length (listed classes) ≤ 0 + length classes = few classes [] in omega arith

pub drop_at : (xs : List ℕ) (i x : ℕ) → slice_get xs i ≡ Some x → drop i xs ≡ x ∷ drop (suc i) xs
drop_at [] i x e = none_in x e
drop_at (y ∷ xs) zero x e = ap (λ w. w ∷ xs) (some_in y x e)
drop_at (y ∷ xs) (suc i) x e = drop_at xs i x e

drop_all : (xs : List ℕ) (i : ℕ) → length xs ≤ i → drop i xs ≡ []
drop_all [] zero h = refl
drop_all [] (suc i) h = refl
drop_all (x ∷ xs) zero h = absurd (omega arith)
drop_all (x ∷ xs) (suc i) h = drop_all xs i (omega arith)

pub more_met : (classes keys : List ℕ) (i x : ℕ) → slice_get classes i ≡ Some x → with_classes keys (drop i classes) ≡ listed classes → with_classes (with_class keys x) (drop (i + 1) classes) ≡ listed classes
more_met classes keys i x e h =
    let next : i + 1 ≡ suc i = omega arith in
    ap (λ n. with_classes (with_class keys x) (drop n classes)) next ∙ ap (with_classes keys) (sym (drop_at classes i x e)) ∙ h

pub all_met : (classes keys : List ℕ) (i : ℕ) → length classes ≤ i → with_classes keys (drop i classes) ≡ listed classes → keys ≡ listed classes
all_met classes keys i h e = ap (with_classes keys) (sym (drop_all classes i h)) ∙ e
