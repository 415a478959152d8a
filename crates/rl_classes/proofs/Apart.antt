-- Which keys the same sets hold, told by numbers.
use Rattle.std.proofs.Common.{◌≡◌, ℕ, suc, ◌+◌, ◌*◌, ◌^◌, ◌≤◌, ◌<◌, ◌↔◌, Bool, true, false, cond, List, [], ◌∷◌, ◌++◌, length, map, refl, sym, ap, ◌∙◌, subst, arith}
use Rattle.std.specs.Prelude.{ℤ, pos, ◌<ℤ◌, sum_by}
use Rattle.std.specs.List.{AllByRecursion}
use Rattle.std.proofs.lemmas.List.{length-map}
use Rattle.std.proofs.lemmas.List.Sums.{sum_by-append}
use Rattle.rl_types.specs.KeyRange.{Range}
use Rattle.rl_classes.specs.declared.steps.Step.{Step}
use Rattle.rl_classes.specs.declared.steps.Steps.{Steps}
use Rattle.rl_classes.specs.Steps.{Ascend, froms, value_at, IsPairOf}
use Rattle.rl_classes.specs.Sets.{holds, SameSets, range_count, TellsSet, TellsSets, Renumbers, with_value, bit_of}
use Rattle.rl_classes.proofs.SetLaws.{value_from-with_value, froms-with_value}

All-append : {X : Type 0} (P : X → Type 0) (xs ys : List X) → AllByRecursion P xs → AllByRecursion P ys → AllByRecursion P (xs ++ ys)
All-append P [] ys h k = k
All-append P (x ∷ xs) ys h k = (h.0, All-append P xs ys h.1 k)

All-front : {X : Type 0} (P : X → Type 0) (xs ys : List X) → AllByRecursion P (xs ++ ys) → AllByRecursion P xs
All-front P [] ys h = tt
All-front P (x ∷ xs) ys h = (h.0, All-front P xs ys h.1)

All-back : {X : Type 0} (P : X → Type 0) (xs ys : List X) → AllByRecursion P (xs ++ ys) → AllByRecursion P ys
All-back P [] ys h = h
All-back P (x ∷ xs) ys h = All-back P xs ys h.1

bits_same : (a b : Bool) → bit_of a ≡ bit_of b → a ≡ b
bits_same true true e = refl
bits_same false false e = refl
bits_same true false e = absurd (omega arith)
bits_same false true e = absurd (omega arith)

pub set_apart : (set : List Range) (f : Steps Bool) (g : Steps ℕ) → TellsSet set f → g.first ≡ bit_of f.first → g.later.items ≡ map (with_value bit_of) f.later.items → TellsSets (set ∷ []) g
set_apart set f g t first later =
    let at : (key : ℤ) → key <ℤ pos (2 ^ 63) → value_at g key ≡ bit_of (holds key set) = λ key fits. rw (first, later, value_from-with_value bit_of f.first f.later.items key, t.told key fits) refl in
    record {
      told = λ k l fk fl. (λ same. (bits_same _ _ (sym (at k fk) ∙ same ∙ at l fl), tt), λ same. at k fk ∙ ap bit_of same.0 ∙ sym (at l fl));
      ascends = rw (later, froms-with_value bit_of f.later.items) t.ascends;
      short = let short = t.short in rw later (simp length-map (omega (arith, short)));
    }

froms_length : {T : Type 0} → (steps : List (Step T)) → length (froms steps) ≡ length steps
froms_length [] = refl
froms_length (s ∷ steps) = ap suc (froms_length steps)

pair_split : {T U : Type 0} → (a c : T) (b d : U) → let p : T × U = (a, b) in let q : T × U = (c, d) in p ≡ q → (a ≡ c) × (b ≡ d)
pair_split {T} {U} a c b d e = (ap (λ (p : T × U). p.0) e, ap (λ (p : T × U). p.1) e)

pair_join : {T U : Type 0} → (a c : T) (b d : U) → a ≡ c → b ≡ d → let p : T × U = (a, b) in let q : T × U = (c, d) in p ≡ q
pair_join a c b d e f = rw (e, f) refl

pub both_apart : (xs ys zs : List (List Range)) (f g h : Steps ℕ) (p : Steps (ℕ × ℕ)) → TellsSets xs f → TellsSets ys g → IsPairOf f g p → Renumbers p h → zs ≡ xs ++ ys → TellsSets zs h
both_apart xs ys zs f g h p tx ty pair r whole = record {
  told = λ k l fk fl. (
    λ same.
        let both = pair_split _ _ _ _ (sym (pair.value k) ∙ (r.told k l).0 same ∙ pair.value l) in
        rw whole (All-append _ xs ys ((tx.told k l fk fl).0 both.0) ((ty.told k l fk fl).0 both.1)),
    λ same.
        let parts : SameSets (xs ++ ys) k l = rw (← whole) same in
        let left = (tx.told k l fk fl).1 (All-front _ xs ys parts) in
        let right = (ty.told k l fk fl).1 (All-back _ xs ys parts) in
        (r.told k l).1 (pair.value k ∙ pair_join _ _ _ _ left right ∙ sym (pair.value l)),
  );
  ascends = rw r.froms_are pair.ascends;
  short =
      let short = pair.short in let front = tx.short in let back = ty.short in
      let same : length h.later.items ≡ length p.later.items = sym (froms_length h.later.items) ∙ ap (λ (ks : List ℤ). length ks) r.froms_are ∙ froms_length p.later.items in
      let n : range_count zs ≡ range_count xs + range_count ys = rw whole (sum_by-append _ xs ys) in
      omega (arith, short, front, back, same, n);
}
