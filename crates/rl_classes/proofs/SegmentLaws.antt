-- Key classes, found and told.
use Rattle.std.proofs.Common.{◌≡◌, ℕ, zero, suc, ◌+◌, ◌*◌, ◌^◌, ◌<◌, ◌≤◌, ◌⊎◌, ◌↔◌, Bool, true, false, cond, eqb, List, [], ◌∷◌, length, map, get_or, Option, Some, None, IsSome, IsTrue, refl, sym, ap, ◌∙◌, subst, inl, inr, arith}
use Rattle.std.specs.Prelude.{ℤ, pos, ◌≤ℤ◌, ◌<ℤ◌, int_le, int_lt, slice_get}
use Rattle.std.specs.List.{AllByRecursion}
use Rattle.std.specs.List.Sorted.{IsPartitionPoint, IsPartitionedBy}
use Rattle.std.proofs.lemmas.Int.{ints}
use Rattle.std.proofs.lemmas.Bool.Decides.{nat_tests}
use Rattle.rl_types.specs.declared.alphabet.Alphabet.{Alphabet}
use Rattle.rl_types.specs.declared.alphabet.Alphabet.TheVariants.{Char, UnsignedChar, Short, UnsignedShort, Int, UnsignedInt}
use Rattle.rl_types.specs.Alphabet.{has_key}
use Rattle.rl_types.specs.KeyRange.{Range, in_range}
use Rattle.rl_classes.specs.declared.steps.Steps.{Steps}
use Rattle.rl_classes.specs.declared.pieces.Piece.{Piece}
use Rattle.rl_classes.specs.declared.classes.Sorted.{Sorted}
use Rattle.rl_classes.specs.Steps.{value_at}
use Rattle.rl_classes.specs.Sets.{holds, SameSets, range_count, TellsSets}
use Rattle.rl_classes.specs.Pieces.{Ordered, ranges_in, number_at, ranges_of, CutsInto}
use Rattle.rl_classes.specs.Classes.{class_of, EachClass, AreClasses, Sorts, AreSearchable}
use Rattle.rl_classes.proofs.StepLaws.{le_from, above_from}
use Rattle.rl_classes.proofs.PieceLaws.{in_true, in_false}
use Rattle.rl_classes.proofs.ClassLaws.{all_above, held_is, is_number, Ordered-filter, class_is}

none_before : (key : ℤ) (ps : List Piece) → AllByRecursion (λ r. key <ℤ r.lo) (ranges_in ps) → number_at ps key ≡ None
none_before key [] h = refl
none_before key (p ∷ ps) h = rw (in_false p.range key (inl h.0)) (none_before key ps h.1)

-- the number of a piece, if it has the key
abbrev pub number_by : ℤ → Option Piece → Option ℕ
number_by key None = None
number_by key (Some p) = cond (int_le p.range.lo key) (Some p.number) None

-- the first piece that does not end before a key is the one that may hold it
pub number_found : (ps : List Piece) (i : ℕ) (key : ℤ) → Ordered (ranges_in ps) → ((k : ℕ) (d : Piece) → k < i → k < length ps → (get_or ps k d).range.hi <ℤ key) → ((k : ℕ) (d : Piece) → i ≤ k → k < length ps → key ≤ℤ (get_or ps k d).range.hi) → number_at ps key ≡ number_by key (slice_get ps i)
number_found [] i key up low high = refl
number_found (p ∷ ps) zero key up low high =
    let reach : key ≤ℤ p.range.hi = high 0 p (omega arith) (omega arith) in
    (elim (int_le p.range.lo key) as (λ b. int_le p.range.lo key ≡ b → number_at (p ∷ ps) key ≡ cond b (Some p.number) None) [
      | true ↦ λ t. rw (in_true p.range key (le_from p.range.lo key t) reach) refl
      | false ↦ λ t. rw (in_false p.range key (inl (above_from p.range.lo key t))) (none_before key ps (all_above p.range.hi key (ranges_in ps) reach up.1))
    ]) refl
number_found (p ∷ ps) (suc i) key up low high =
    let past : p.range.hi <ℤ key = low 0 p (omega arith) (omega arith) in
    rw (in_false p.range key (inr past)) (number_found ps i key up.2 (λ k d lt within. low (suc k) d (omega (arith, lt)) (omega (arith, within))) (λ k d le within. high (suc k) d (omega (arith, le)) (omega (arith, within))))

-- the same, of a point that parts the pieces
pub number_parted : (ps : List Piece) (i : ℕ) (key : ℤ) → Ordered (ranges_in ps) → IsPartitionPoint (λ p. p.range.hi <ℤ key) (λ p. key ≤ℤ p.range.hi) ps i → number_at ps key ≡ number_by key (slice_get ps i)
number_parted ps i key up point = number_found ps i key up (λ k d lt within. point.0 k d (omega arith) lt) (λ k d le within. point.1 k d le within)

-- pieces that end before a key come before those that do not
ends_rise : (ps : List Piece) (r : Range) (j : ℕ) (d : Piece) → r.lo ≤ℤ r.hi → AllByRecursion (λ s. r.hi <ℤ s.lo) (ranges_in ps) → Ordered (ranges_in ps) → j < length ps → r.hi ≤ℤ (get_or ps j d).range.hi
ends_rise [] r j d up all o lt = absurd (omega arith)
ends_rise (p ∷ ps) r zero d up all o lt = let first = all.0 in let own = o.0 in omega (arith, ints, first, own)
ends_rise (p ∷ ps) r (suc j) d up all o lt = ends_rise ps r j d up all.1 o.2 (omega (arith, lt))

ends_ascend : (ps : List Piece) (i j : ℕ) (d : Piece) → Ordered (ranges_in ps) → i ≤ j → j < length ps → (get_or ps i d).range.hi ≤ℤ (get_or ps j d).range.hi
ends_ascend [] i j d o le lt = absurd (omega arith)
ends_ascend (p ∷ ps) zero zero d o le lt = omega (arith, ints)
ends_ascend (p ∷ ps) zero (suc j) d o le lt = ends_rise ps p.range j d o.0 o.1 o.2 (omega (arith, lt))
ends_ascend (p ∷ ps) (suc i) zero d o le lt = absurd (omega (arith, le))
ends_ascend (p ∷ ps) (suc i) (suc j) d o le lt = ends_ascend ps i j d o.2 (omega (arith, le)) (omega (arith, lt))

lt_true : (x y : ℤ) → x <ℤ y → int_lt x y ≡ true
lt_true x y h = grind (arith, ints)

pub lt_from : (x y : ℤ) → int_lt x y ≡ true → x <ℤ y
lt_from x y e = grind (arith, ints)

pub ge_from : (x y : ℤ) → int_lt x y ≡ false → y ≤ℤ x
ge_from x y e = grind (arith, ints)

pub ends_part : (ps : List Piece) (key : ℤ) → Ordered (ranges_in ps) → IsPartitionedBy (λ p. int_lt p.range.hi key) ps
ends_part ps key o i j d le lt e =
    let up = ends_ascend ps i j d o le lt in
    let before : (get_or ps j d).range.hi <ℤ key = lt_from _ _ e in
    let less : (get_or ps i d).range.hi <ℤ key = omega (arith, ints, up, before) in lt_true _ _ less

-- a key of an alphabet is one of 64 bits
fits : (alphabet : Alphabet) (key : ℤ) → IsTrue (has_key alphabet key) → key <ℤ pos (2 ^ 63)
fits Char key e = grind (arith, ints)
fits UnsignedChar key e = grind (arith, ints)
fits Short key e = grind (arith, ints)
fits UnsignedShort key e = grind (arith, ints)
fits Int key e = grind (arith, ints)
fits UnsignedInt key e = grind (arith, ints)

some_is : (x y : ℕ) → Some x ≡ Some y → x ≡ y
some_is x y e = cc

is_number_from : (c : ℕ) (o : Option ℕ) → is_number c o ≡ true → o ≡ Some c
is_number_from c None e = absurd cc
is_number_from c (Some n) e = let same : n ≡ c = grind (arith, nat_tests) in ap (λ i. Some i) same

module _ (sets : List (List Range)) (alphabet : Alphabet) (f : Steps ℕ) (pieces : List Piece) (s : Sorted) (t : TellsSets sets f) (cut : CutsInto f alphabet pieces) (sorts : Sorts pieces s) where
  up : Ordered (ranges_in s.pieces.items)
  up = rw sorts.ranges_are cut.ordered

  abbrev at : ℤ → Option ℕ
  at key = number_at s.pieces.items key

  abbrev is : (key : ℤ) → class_of s.classes.items key ≡ at key
  is key = class_is pieces s sorts up key

  -- the number of a key of the alphabet, before classes are numbered
  inside : (key : ℤ) → IsTrue (has_key alphabet key) → number_at pieces key ≡ Some (value_at f key)
  inside key e = rw (cut.number key, e) refl

  covers_to : (key : ℤ) → IsSome (class_of s.classes.items key) → IsTrue (has_key alphabet key)
  covers_to key some =
      let held : IsSome (number_at pieces key) = (sorts.held key).0 (subst (λ o. IsSome o) (is key) some) in
      (elim (has_key alphabet key) as (λ b. has_key alphabet key ≡ b → IsTrue b) [
        | true ↦ λ e. refl
        | false ↦ λ e. let none : number_at pieces key ≡ None = rw (cut.number key, e) refl in absurd (none_is _ none held)
      ]) refl
    where
      none_is : (o : Option ℕ) → o ≡ None → IsSome o → ⊥
      none_is None e h = cc
      none_is (Some n) e h = cc

  covers_from : (key : ℤ) → IsTrue (has_key alphabet key) → IsSome (class_of s.classes.items key)
  covers_from key e = subst (λ o. IsSome o) (sym (is key)) ((sorts.held key).1 (subst (λ o. IsSome o) (sym (inside key e)) refl))

  alike_to : (k l : ℤ) → IsTrue (has_key alphabet k) → IsTrue (has_key alphabet l) → class_of s.classes.items k ≡ class_of s.classes.items l → SameSets sets k l
  alike_to k l ek el same =
      let numbers : number_at pieces k ≡ number_at pieces l = (sorts.same k l).0 (sym (is k) ∙ same ∙ is l) in
      (t.told k l (fits alphabet k ek) (fits alphabet l el)).0 (some_is _ _ (sym (inside k ek) ∙ numbers ∙ inside l el))

  alike_from : (k l : ℤ) → IsTrue (has_key alphabet k) → IsTrue (has_key alphabet l) → SameSets sets k l → class_of s.classes.items k ≡ class_of s.classes.items l
  alike_from k l ek el same =
      let values = (t.told k l (fits alphabet k ek) (fits alphabet l el)).1 same in
      is k ∙ (sorts.same k l).1 (inside k ek ∙ ap (λ n. Some n) values ∙ sym (inside l el)) ∙ sym (is l)

  pub classes_are : AreClasses sets alphabet s.classes.items
  classes_are = record {
    covers = λ key. (covers_to key, covers_from key);
    alike = λ k l ek el. (alike_to k l ek el, alike_from k l ek el);
    apart = λ c ranges e key h. is key ∙ is_number_from c _ (sym (held_is key c s.pieces.items up) ∙ ap (λ rs. holds key rs) (sym (sorts.lists c ranges e)) ∙ h);
    ordered = λ c ranges e. rw (sorts.lists c ranges e) (Ordered-filter _ s.pieces.items up);
    used = sorts.used;
  }

  pub searchable : range_count sets ≤ 1073741823 → AreSearchable s.pieces.items s.classes.items
  searchable few = record {
    class = is;
    ordered = up;
    few = let a = t.short in let b = cut.few in let c = sorts.few in omega (arith, few, a, b, c);
  }
