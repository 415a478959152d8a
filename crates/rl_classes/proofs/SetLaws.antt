-- Which keys a set holds, told by steps.
use Rattle.std.proofs.Common.{◌≡◌, ℕ, ◌+◌, ◌*◌, ◌^◌, ◌≤◌, ◌⊎◌, Bool, true, false, cond, ◌||◌, ◌&&◌, List, [], ◌∷◌, ◌++◌, length, map, refl, sym, ap, ◌∙◌, subst, inl, inr, arith, length-append}
use Rattle.std.specs.Prelude.{ℤ, pos, ◌+ℤ◌, ◌≤ℤ◌, ◌<ℤ◌, int_le}
use Rattle.std.specs.List.{list_any}
use Rattle.std.proofs.lemmas.Int.{ints}
use Rattle.std.proofs.lemmas.List.Folds.{list_any-append}
use Rattle.std.proofs.lemmas.List.{length-map}
use Rattle.rl_types.specs.KeyRange.{Range, in_range}
use Rattle.rl_classes.specs.declared.steps.Step.{Step}
use Rattle.rl_classes.specs.declared.steps.Steps.{Steps}
use Rattle.rl_classes.specs.Steps.{Ascend, froms, value_from, value_at, IsPairOf}
use Rattle.rl_classes.specs.Sets.{holds, TellsSet, with_value, either_of}
use Rattle.rl_classes.proofs.StepLaws.{le_from, above_from, le_true, le_false, cases_le}

-- steps with other values
pub value_from-with_value : {T U : Type 0} → (f : T → U) (first : T) (steps : List (Step T)) (key : ℤ) → value_from (f first) (map (with_value f) steps) key ≡ f (value_from first steps key)
value_from-with_value f first [] key = refl
value_from-with_value {T} {U} f first (s ∷ steps) key =
    (elim (int_le s.from key) as (λ b. value_from (cond {A = U} b (f s.value) (f first)) (map (with_value f) steps) key ≡ f (value_from (cond {A = T} b s.value first) steps key)) [
      | true ↦ value_from-with_value f s.value steps key
      | false ↦ value_from-with_value f first steps key
    ])

pub froms-with_value : {T U : Type 0} → (f : T → U) (steps : List (Step T)) → froms (map (with_value f) steps) ≡ froms steps
froms-with_value f [] = refl
froms-with_value f (s ∷ steps) = ap (λ ks. s.from ∷ ks) (froms-with_value f steps)

-- a range is entered at its low, and left behind its high
range_told : (r : Range) (key : ℤ) → r.lo ≤ℤ r.hi → cond (int_le (r.hi +ℤ pos 1) key) false (cond (int_le r.lo key) true false) ≡ (in_range key r || false)
range_told r key up = grind (arith, ints)

range_rises : (r : Range) (key : ℤ) → key ≤ℤ r.hi → cond (int_le r.lo key) true false ≡ (in_range key r || false)
range_rises r key in_reach = grind (arith, ints)

abbrev step : {T : Type 0} → ℤ → T → Step T
step from value = record { from = from; value = value }

pub range_tells : (r : Range) (f : Steps Bool) → r.lo ≤ℤ r.hi → f.first ≡ false → f.later.items ≡ step r.lo true ∷ step (r.hi +ℤ pos 1) false ∷ [] → TellsSet (r ∷ []) f
range_tells r f up first later = record {
  told = λ key fits. rw (first, later) (range_told r key up);
  ascends = rw later (omega (arith, ints), (tt, tt));
  short = rw later (omega arith);
}

pub range_only_rises : (r : Range) (f : Steps Bool) → pos (2 ^ 63) ≤ℤ (r.hi +ℤ pos 1) → f.first ≡ false → f.later.items ≡ step r.lo true ∷ [] → TellsSet (r ∷ []) f
range_only_rises r f far first later = record {
  told = λ key fits. rw (first, later) (range_rises r key (omega (arith, ints)));
  ascends = rw later (tt, tt);
  short = rw later (omega arith);
}

-- two sets made one
pub both_tell : (xs ys zs : List Range) (f g h : Steps Bool) (p : Steps (Bool × Bool)) → TellsSet xs f → TellsSet ys g → IsPairOf f g p → h.first ≡ either_of p.first → h.later.items ≡ map (with_value either_of) p.later.items → zs ≡ xs ++ ys → TellsSet zs h
both_tell xs ys zs f g h p tx ty pair first later whole = record {
  told = λ key fits. rw (first, later, whole, value_from-with_value either_of p.first p.later.items key, pair.value key, tx.told key fits, ty.told key fits) (sym (list_any-append (in_range key) xs ys));
  ascends = rw (later, froms-with_value either_of p.later.items) pair.ascends;
  short = let short = pair.short in let front = tx.short in let back = ty.short in
      let n : length zs ≡ length xs + length ys = rw whole (length-append xs ys) in
      rw later (simp length-map (omega (arith, short, front, back, n)));
}

pub none_tells : (f : Steps Bool) → f.first ≡ false → f.later.items ≡ [] → TellsSet [] f
none_tells f first later = record { told = λ key fits. rw (first, later) refl; ascends = rw later tt; short = rw later (omega arith) }
