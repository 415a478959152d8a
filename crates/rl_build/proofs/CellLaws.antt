-- Key classes, conditions and cells.
use Rattle.std.proofs.Common.{◌≡◌, ℕ, zero, suc, ◌+◌, ◌*◌, ◌/◌, ◌^◌, ◌<◌, ◌≤◌, ℤ, pos, ◌≤ℤ◌, Bool, true, false, ◌&&◌, ◌||◌, List, [], ◌∷◌, ◌++◌, inl, inr, map, length, Option, Some, None, IsSome, IsTrue, slice_get, get_or, refl, sym, ◌∙◌, ap, subst, arith, true≢false, nat_cmp}
use Rattle.std.specs.Cmp.Lexicographic.{pointwise}
use Rattle.std.specs.Ordering.{int_eq}
use Rattle.std.proofs.lemmas.Int.{ints}
use Rattle.std.proofs.lemmas.List.{length-map}
use Rattle.std.proofs.lemmas.List.Quantifiers.{position-Some}
use Rattle.std.proofs.lemmas.List.Sums.{sum_by-append}
use Rattle.std.proofs.lemmas.Option.{slice_get-get_or}
use Rattle.std.proofs.Math.Nat.{div-eq_of_lt, pow-le-pow_right, suc-mul}
use Rattle.rl_types.specs.declared.alphabet.Alphabet.{Alphabet}
use Rattle.rl_types.specs.declared.alphabet.Alphabet.TheVariants.{Char, UnsignedChar, Short, UnsignedShort, Int, UnsignedInt}
use Rattle.rl_types.specs.Alphabet.{has_key, least_key}
use Rattle.rl_types.specs.KeyRange.{Range, in_range}
use Rattle.rl_sets.specs.Sets.{In, set_of, insert}
use Rattle.rl_sets.proofs.SetLaws.{Same, In-append_left, In-append_right, In-append_cases, In-map, In-map_from, set_of-same, In-set_of, In-set_of_from, any_true}
use Rattle.rl_sets.proofs.OrderLaws.{nat_order}
use Rattle.rl_automata.specs.Refused.{AreDifferent, held_in, class_count}
use Rattle.rl_automata.proofs.ClassLaws.{class_count_of}
use Rattle.rl_automata.proofs.Congruence.{some_in}
use Rattle.rl_explore.proofs.NumberLaws.{In_get, get_In}
use Rattle.rl_classes.specs.Sets.{holds, SameSets, range_count}
use Rattle.rl_classes.specs.Pieces.{Ordered}
use Rattle.rl_classes.specs.Classes.{class_of, AreClasses}
use Rattle.rl_classes.proofs.PieceLaws.{in_true}
use Rattle.rl_classes.proofs.StepLaws.{eq_from}
use Rattle.rl_build.specs.declared.cells.Cells.{Cells}
use Rattle.rl_build.specs.Cells.{HaveSame, AreCounted, AreCells}
use Rattle.rl_build.specs.Adds.{AddsAll, insert_all, AreCountedAgain}

-- ---- which sets hold a key

both : (a b : Bool) → (a && b) ≡ true → (a ≡ true) × (b ≡ true)
both true b e = (refl, e)
both false b e = absurd (true≢false (sym e))

head_same : {X : Type 0} (a b : X) (us vs : List X) → a ∷ us ≡ b ∷ vs → (a ≡ b) × (us ≡ vs)
head_same a b us vs e = (cc, cc)

held_to : (sets : List (List Range)) (k l : ℤ) → held_in sets k ≡ held_in sets l → SameSets sets k l
held_to [] k l e = tt
held_to (s ∷ sets) k l e = let p = head_same (holds k s) (holds l s) (held_in sets k) (held_in sets l) e in (p.0, held_to sets k l p.1)

held_from : (sets : List (List Range)) (k l : ℤ) → SameSets sets k l → held_in sets k ≡ held_in sets l
held_from [] k l e = refl
held_from (s ∷ sets) k l e = λ i. e.0 i ∷ held_from sets k l e.1 i

held_each : (sets : List (List Range)) (k l : ℤ) → held_in sets k ≡ held_in sets l → (s : List Range) → In s sets → holds k s ≡ holds l s
held_each [] k l e s h = absurd h
held_each (x ∷ sets) k l e s (inl p) = subst (λ w. holds k w ≡ holds l w) p (head_same (holds k x) (holds l x) (held_in sets k) (held_in sets l) e).0
held_each (x ∷ sets) k l e s (inr h) = held_each sets k l (head_same (holds k x) (holds l x) (held_in sets k) (held_in sets l) e).1 s h

held_all : (sets : List (List Range)) (k l : ℤ) → ((s : List Range) → In s sets → holds k s ≡ holds l s) → held_in sets k ≡ held_in sets l
held_all [] k l f = refl
held_all (x ∷ sets) k l f = λ i. f x (inl refl) i ∷ held_all sets k l (λ s h. f s (inr h)) i

-- fewer sets tell no more keys apart
held_of : (xs ys : List (List Range)) (k l : ℤ) → ((s : List Range) → In s ys → In s xs) → held_in xs k ≡ held_in xs l → held_in ys k ≡ held_in ys l
held_of xs ys k l f e = held_all ys k l (λ s h. held_each xs k l e s (f s h))

-- ---- keys that are one of each class

different_of : (xs ys : List (List Range)) (keys : List ℤ) → ((s : List Range) → In s xs → In s ys) → AreDifferent (map (held_in xs) keys) → AreDifferent (map (held_in ys) keys)
different_of xs ys [] f d = tt
different_of xs ys (k ∷ keys) f d = (
  (λ h.
      let p = In-map_from (held_in ys) (held_in ys k) keys h in
      d.0 (subst (λ w. In w (map (held_in xs) keys)) (held_of ys xs p.0 k f p.2) (In-map (held_in xs) p.0 keys p.1))),
  different_of xs ys keys f d.1,
)

pub counted_same : (alphabet : Alphabet) (xs ys : List (List Range)) (n : ℕ) → HaveSame xs ys → AreCounted alphabet xs n → AreCounted alphabet ys n
counted_same alphabet xs ys n same (keys, (inside, different, each), e) = (
  keys,
  (
    inside,
    different_of xs ys keys (λ s. (same s).0) different,
    (λ k h.
        let p = In-map_from (held_in xs) (held_in xs k) keys (each k h) in
        subst (λ w. In w (map (held_in ys) keys)) (held_of xs ys p.0 k (λ s. (same s).1) p.2) (In-map (held_in ys) p.0 keys p.1)),
  ),
  e,
)

has_least : (alphabet : Alphabet) → IsTrue (has_key alphabet (least_key alphabet))
has_least Char = refl
has_least UnsignedChar = refl
has_least Short = refl
has_least UnsignedShort = refl
has_least Int = refl
has_least UnsignedInt = refl

pub some_class : (alphabet : Alphabet) (xs : List (List Range)) (n : ℕ) → AreCounted alphabet xs n → 0 < n
some_class alphabet xs n (keys, (inside, different, each), e) = subst (λ w. 0 < w) e (some keys (each (least_key alphabet) (has_least alphabet)))
  where
    some : (keys : List ℤ) → In (held_in xs (least_key alphabet)) (map (held_in xs) keys) → 0 < length keys
    some [] h = absurd h
    some (k ∷ keys) h = omega arith

pub count_is : (alphabet : Alphabet) (xs : List (List Range)) (n : ℕ) → AreCounted alphabet xs n → class_count alphabet xs ≡ n
count_is alphabet xs n (keys, one, e) = class_count_of alphabet xs keys one ∙ e

-- ---- the classes that are counted

first_key : List Range → ℤ
first_key [] = pos 0
first_key (r ∷ ranges) = r.lo

holds_first : (ranges : List Range) → Ordered ranges → 0 < length ranges → holds (first_key ranges) ranges ≡ true
unfolding first_key
holds_first [] o l = absurd (omega arith)
holds_first (r ∷ ranges) o l = any_true (in_range r.lo) r (r ∷ ranges) (inl refl) (in_true r r.lo (itself r.lo) o.0)
  where
    itself : (k : ℤ) → k ≤ℤ k
    itself k = omega (arith, ints)

-- values that differ at different places are different
different_by : {X Y Z : Type 0} (f : Y → Z) (g : X → Y) (xs : List X) → ((i j : ℕ) (x y : X) → slice_get xs i ≡ Some x → slice_get xs j ≡ Some y → f (g x) ≡ f (g y) → i ≡ j) → AreDifferent (map f (map g xs))
different_by f g [] h = tt
different_by f g (x ∷ xs) h = (
  (λ i.
      let p = In-map_from f (f (g x)) (map g xs) i in
      let q = In-map_from g p.0 xs p.1 in
      let r = In_get xs q.0 q.1 in
      apart r.0 (h 0 (suc r.0) x q.0 refl r.1 (sym (ap f q.2 ∙ p.2)))),
  different_by f g xs (λ i j y z d e q. less i j (h (suc i) (suc j) y z d e q)),
)
  where
    apart : (n : ℕ) → 0 ≡ suc n → ⊥
    apart n e = omega arith

    less : (i j : ℕ) → suc i ≡ suc j → i ≡ j
    less i j e = omega arith

some_value : (o : Option ℕ) → IsSome o → (i : ℕ) × (o ≡ Some i)
some_value None h = absurd (true≢false (sym h))
some_value (Some i) h = (i, refl)

module _ (sets : List (List Range)) (alphabet : Alphabet) (classes : List (List Range)) (are : AreClasses sets alphabet classes) where
  -- the first key of a class is in it
  class_first : (i : ℕ) (ranges : List Range) → slice_get classes i ≡ Some ranges → class_of classes (first_key ranges) ≡ Some i
  class_first i ranges e = are.apart i ranges e (first_key ranges) (holds_first ranges (are.ordered i ranges e) (are.used i ranges e))

  inside_first : (i : ℕ) (ranges : List Range) → slice_get classes i ≡ Some ranges → IsTrue (has_key alphabet (first_key ranges))
  inside_first i ranges e = (are.covers (first_key ranges)).0 (subst (λ o. IsSome o) (sym (class_first i ranges e)) refl)

  pub classes_counted : AreCounted alphabet sets (length classes)
  classes_counted = (
    map first_key classes,
    (
      (λ k h. let p = In-map_from first_key k classes h in let q = In_get classes p.0 p.1 in subst (λ w. IsTrue (has_key alphabet w)) p.2 (inside_first q.0 p.0 q.1)),
      different_by (held_in sets) first_key classes (λ i j x y d e q. some_in i j (sym (class_first i x d) ∙ (are.alike (first_key x) (first_key y) (inside_first i x d) (inside_first j y e)).1 (held_to sets (first_key x) (first_key y) q) ∙ class_first j y e)),
      (λ k h.
          let p = some_value (class_of classes k) ((are.covers k).1 h) in
          let q = position-Some (holds k) classes p.0 [] p.1 in
          let ranges = get_or classes p.0 [] in
          let at : slice_get classes p.0 ≡ Some ranges = slice_get-get_or classes p.0 [] q.0 in
          let same = (are.alike (first_key ranges) k (inside_first p.0 ranges at) h).0 (class_first p.0 ranges at ∙ sym p.1) in
          subst (λ w. In w (map (held_in sets) (map first_key classes))) (held_from sets (first_key ranges) k same)
          (In-map (held_in sets) (first_key ranges) (map first_key classes) (In-map first_key ranges classes (get_In classes p.0 ranges at)))),
    ),
    length-map classes first_key,
  )

pub or_true : (a b : Bool) → a ≡ true → (a || b) ≡ a
or_true true b e = refl
or_true false b e = absurd (true≢false (sym e))

pub or_false : (a b : Bool) → a ≡ false → (a || b) ≡ b
or_false true b e = absurd (true≢false e)
or_false false b e = refl

-- ---- equal sets

range_same : (r s : Range) → (int_eq r.lo s.lo && int_eq r.hi s.hi) ≡ true → r ≡ s
range_same r s e =
    let p = both (int_eq r.lo s.lo) (int_eq r.hi s.hi) e in
    let lo : r.lo ≡ s.lo = eq_from r.lo s.lo p.0 in
    let hi : r.hi ≡ s.hi = eq_from r.hi s.hi p.1 in
    λ i. record { lo = lo i; hi = hi i }

pub ranges_same : (xs ys : List Range) → pointwise (λ r s. int_eq r.lo s.lo && int_eq r.hi s.hi) xs ys ≡ true → xs ≡ ys
ranges_same [] [] e = refl
ranges_same [] (y ∷ ys) e = absurd (true≢false (sym e))
ranges_same (x ∷ xs) [] e = absurd (true≢false (sym e))
ranges_same (x ∷ xs) (y ∷ ys) e =
    let p = both (int_eq x.lo y.lo && int_eq x.hi y.hi) (pointwise (λ r s. int_eq r.lo s.lo && int_eq r.hi s.hi) xs ys) e in
    let first = range_same x y p.0 in
    let rest = ranges_same xs ys p.1 in
    λ i. first i ∷ rest i

-- ---- sets that are added

pub item_in : {X : Type 0} (xs : List X) (i : ℕ) (x : X) → i < length xs → x ≡ get_or xs i x → In x xs
item_in xs i x lt e = get_In xs i x (slice_get-get_or xs i x lt ∙ ap Some (sym e))

pub adds_none : (old : List (List Range)) → AddsAll old [] old false
adds_none old = record { same = λ x. ((λ h. In-append_left x old [] h), (λ h. elim (In-append_cases x old [] h) [ inl i ↦ i | inr j ↦ absurd j ])); few = omega arith; kept = λ e. refl }

pub adds_there : (old : List (List Range)) (set : List Range) → In set old → AddsAll old (set ∷ []) old false
adds_there old set h = record {
  same = λ x. ((λ i. In-append_left x old (set ∷ []) i), (λ i. elim (In-append_cases x old (set ∷ []) i) [ inl j ↦ j | inr j ↦ elim j [ inl e ↦ subst (λ w. In w old) e h | inr z ↦ absurd z ] ]));
  few = omega arith;
  kept = λ e. refl;
}

pub adds_new : (old : List (List Range)) (set : List Range) → AddsAll old (set ∷ []) (old ++ set ∷ []) true
adds_new old set = record {
  same = λ x. ((λ h. h), (λ h. h));
  few = let e : range_count (old ++ set ∷ []) ≡ range_count old + range_count (set ∷ []) = sum_by-append (λ (s : List Range). length s) old (set ∷ []) in omega arith;
  kept = λ e. absurd (true≢false e);
}

pub adds_more : (old ys mid new : List (List Range)) (set : List Range) (a b : Bool) → AddsAll old ys mid a → AddsAll mid (set ∷ []) new b → AddsAll old (ys ++ set ∷ []) new (a || b)
adds_more old ys mid new set a b p q = record {
  same = λ x. (
    (λ h. elim (In-append_cases x mid (set ∷ []) ((q.same x).0 h)) [
      | inl i ↦ elim (In-append_cases x old ys ((p.same x).0 i)) [ inl j ↦ In-append_left x old (ys ++ set ∷ []) j | inr j ↦ In-append_right x old (ys ++ set ∷ []) (In-append_left x ys (set ∷ []) j) ]
      | inr i ↦ In-append_right x old (ys ++ set ∷ []) (In-append_right x ys (set ∷ []) i)
    ]),
    (λ h. (q.same x).1 (elim (In-append_cases x old (ys ++ set ∷ []) h) [
      | inl i ↦ In-append_left x mid (set ∷ []) ((p.same x).1 (In-append_left x old ys i))
      | inr i ↦ elim (In-append_cases x ys (set ∷ []) i) [ inl j ↦ In-append_left x mid (set ∷ []) ((p.same x).1 (In-append_right x old ys j)) | inr j ↦ In-append_right x mid (set ∷ []) j ]
    ])),
  );
  few =
      let e : range_count (ys ++ set ∷ []) ≡ range_count ys + range_count (set ∷ []) = sum_by-append (λ (s : List Range). length s) ys (set ∷ []) in
      let f = p.few in
      let g = q.few in
      omega arith;
  kept = λ e. let s = neither a b e in q.kept s.1 ∙ p.kept s.0;
}
  where
    neither : (a b : Bool) → (a || b) ≡ false → (a ≡ false) × (b ≡ false)
    neither true b e = absurd (true≢false e)
    neither false b e = (refl, e)

-- ---- conditions

inserted : (xs ys : List ℕ) → insert_all xs (set_of nat_cmp ys) ≡ set_of nat_cmp (xs ++ ys)
inserted [] ys = refl
inserted (x ∷ xs) ys = ap (insert nat_cmp x) (inserted xs ys)

same_swapped : (xs ys : List ℕ) → Same (set_of nat_cmp ys ++ xs) (xs ++ ys)
same_swapped xs ys = record {
  to = λ x h. elim (In-append_cases x (set_of nat_cmp ys) xs h) [ inl i ↦ In-append_right x xs ys (In-set_of_from nat_order x ys i) | inr i ↦ In-append_left x xs ys i ];
  back = λ x h. elim (In-append_cases x xs ys h) [ inl i ↦ In-append_right x (set_of nat_cmp ys) xs i | inr i ↦ In-append_left x (set_of nat_cmp ys) xs (In-set_of nat_order x ys i) ];
}

-- the set of one list put into that of another
set_joined : (xs ys : List ℕ) → insert_all (set_of nat_cmp ys) (set_of nat_cmp xs) ≡ set_of nat_cmp (xs ++ ys)
set_joined xs ys = inserted (set_of nat_cmp ys) xs ∙ set_of-same nat_order _ _ (same_swapped xs ys)

-- ---- cells

appended : (xs ys us vs : List (List Range)) → HaveSame us xs → HaveSame vs ys → HaveSame (us ++ vs) (xs ++ ys)
appended xs ys us vs p q = λ x. (
  (λ h. elim (In-append_cases x us vs h) [ inl i ↦ In-append_left x xs ys ((p x).0 i) | inr i ↦ In-append_right x xs ys ((q x).0 i) ]),
  (λ h. elim (In-append_cases x xs ys h) [ inl i ↦ In-append_left x us vs ((p x).1 i) | inr i ↦ In-append_right x us vs ((q x).1 i) ]),
)

pub cells_extended : (alphabet : Alphabet) (xs ys : List (List Range)) (cs ds : List ℕ) (a b c : Cells) (added : Bool) → AreCells alphabet xs cs a → AreCells alphabet ys ds b
    → AddsAll a.sets.items b.sets.items c.sets.items added → AreCountedAgain alphabet c.sets.items added a.classes c.classes → c.conditions.items ≡ insert_all b.conditions.items a.conditions.items
    → AreCells alphabet (xs ++ ys) (cs ++ ds) c
cells_extended alphabet xs ys cs ds a b c added p q adds again e =
    let all : HaveSame c.sets.items (xs ++ ys) = λ x. let s = appended xs ys a.sets.items b.sets.items p.same q.same x in ((λ h. s.0 ((adds.same x).0 h)), (λ h. (adds.same x).1 (s.1 h))) in
    record {
      same = all;
      few =
          let f = p.few in
          let g = q.few in
          let h = adds.few in
          let s : range_count (xs ++ ys) ≡ range_count xs + range_count ys = sum_by-append (λ (s : List Range). length s) xs ys in
          omega arith;
      classes = by added refl all;
      conditions = e ∙ (λ i. insert_all (q.conditions i) (p.conditions i)) ∙ set_joined cs ds;
    }
  where
    by : (w : Bool) → added ≡ w → HaveSame c.sets.items (xs ++ ys) → AreCounted alphabet (xs ++ ys) c.classes
    by true t all = counted_same alphabet c.sets.items (xs ++ ys) c.classes all (again.0 t)
    by false t all =
        let old : HaveSame xs (xs ++ ys) = λ x. (
          (λ h. In-append_left x xs ys h),
          (λ h. (p.same x).0 (subst (λ w. In x w) (adds.kept t) ((all x).1 h))),
        ) in
        subst (AreCounted alphabet (xs ++ ys)) (sym (again.1 t)) (counted_same alphabet xs (xs ++ ys) a.classes old p.classes)

swapped : {X : Type 0} (xs ys : List X) → HaveSame (ys ++ xs) (xs ++ ys)
swapped xs ys = λ x. (
  (λ h. elim (In-append_cases x ys xs h) [ inl i ↦ In-append_right x xs ys i | inr i ↦ In-append_left x xs ys i ]),
  (λ h. elim (In-append_cases x xs ys h) [ inl i ↦ In-append_right x ys xs i | inr i ↦ In-append_left x ys xs i ]),
)

pub cells_swapped : (alphabet : Alphabet) (xs ys : List (List Range)) (cs ds : List ℕ) (c : Cells) → AreCells alphabet (ys ++ xs) (ds ++ cs) c → AreCells alphabet (xs ++ ys) (cs ++ ds) c
cells_swapped alphabet xs ys cs ds c p = record {
  same = λ x. let s = swapped xs ys x in ((λ h. s.0 ((p.same x).0 h)), (λ h. (p.same x).1 (s.1 h)));
  few =
      let f = p.few in
      let s : range_count (xs ++ ys) ≡ range_count xs + range_count ys = sum_by-append (λ (s : List Range). length s) xs ys in
      let t : range_count (ys ++ xs) ≡ range_count ys + range_count xs = sum_by-append (λ (s : List Range). length s) ys xs in
      omega arith;
  classes = counted_same alphabet (ys ++ xs) (xs ++ ys) c.classes (swapped xs ys) p.classes;
  conditions = p.conditions ∙ set_of-same nat_order _ _ (record { to = λ x. (swapped cs ds x).0; back = λ x. (swapped cs ds x).1 });
}

pub cells_alone : (alphabet : Alphabet) (c : Cells) → AreCounted alphabet c.sets.items c.classes → c.conditions.items ≡ [] → AreCells alphabet c.sets.items [] c
cells_alone alphabet c p e = record { same = λ x. ((λ h. h), (λ h. h)); few = omega arith; classes = p; conditions = e }

pub cells_guarded : (alphabet : Alphabet) (xs : List (List Range)) (cs : List ℕ) (a c : Cells) (n : ℕ) → AreCells alphabet xs cs a → c.sets.items ≡ a.sets.items → c.classes ≡ a.classes → c.conditions.items ≡ insert nat_cmp n a.conditions.items
    → AreCells alphabet xs (n ∷ cs) c
cells_guarded alphabet xs cs a c n p d e f = record {
  same = subst (λ w. HaveSame w xs) (sym d) p.same;
  few = subst (λ w. range_count w ≤ range_count xs) (sym d) p.few;
  classes = subst (AreCounted alphabet xs) (sym e) p.classes;
  conditions = f ∙ ap (insert nat_cmp n) p.conditions;
}

-- ---- how many configurations there may be

-- with more than 22 conditions one configuration has too many cells
pub none_most : (classes conditions : ℕ) → 0 < classes → 22 < conditions → 4194304 / (classes * 2 ^ conditions) ≡ 0
none_most classes conditions some many = div-eq_of_lt (more classes (2 ^ conditions) some (pow-le-pow_right {n = 2} two big))
  where
    two : 0 < 2
    two = omega arith

    big : 23 ≤ conditions
    big = omega arith

    more : (c p : ℕ) → 0 < c → 2 ^ 23 ≤ p → 4194304 < c * p
    more zero p some big = absurd (omega arith)
    more (suc c) p some big = rw suc-mul (omega arith)

pub few_swapped : (m n x : ℕ) → x ≤ m + n → x ≤ n + m
few_swapped m n x h = omega arith
