-- Where elements stand in lists one behind another, and where the lists of actions begin.
use Rattle.std.proofs.Common.{◌≡◌, ℕ, zero, suc, ◌+◌, ◌-◌, ◌<◌, ◌≤◌, Bool, true, false, cond, ◌||◌, true≢false, nat_eq, ℤ, pos, List, [], ◌∷◌, ◌++◌, length, Some, refl, sym, ap, ◌∙◌, subst, arith, inl, inr, ◌⊎◌}
use Rattle.std.specs.Prelude.{slice_get}
use Rattle.std.specs.List.{flat_map, list_any}
use Rattle.std.specs.Option.{option_map, option_map_or}
use Rattle.std.proofs.lemmas.Option.{slice_get-map, slice_get_within}
use Rattle.std.proofs.lemmas.Bool.{ne_eqb, or_right}
use Rattle.std.proofs.lemmas.List.{length-map}
use Rattle.std.proofs.lemmas.Int.{ints}
use Rattle.rl_types.specs.declared.numbers.ActionId.{ActionId}
use Rattle.rl_arrays.specs.Words.{number_at}
use Rattle.rl_arrays.specs.Lists.{left_next, left_at, IsList}
use Rattle.rl_minimal.specs.Minimal.{numbers}
use Rattle.rl_layout.specs.Runs.{same_actions}
use Rattle.rl_layout.specs.Books.{place_from, place_in, number_in, order_of, members_of, elements_of, actions_of}
use Rattle.rl_layout.proofs.ListLaws.{next_get, all_at}
use Rattle.rl_layout.proofs.Segments.{begins, in_segment}
use Rattle.rl_layout.proofs.SumLaws.{begins_next, begins_all, element}
use Rattle.rl_layout.proofs.SpecLaws.{number_is}
use Rattle.rl_layout.proofs.BookLaws.{listed, some_listed, same_self, has_number, actions_numbered, numbered_place}

-- ---- elements of lists one behind another

-- an element of the first list, or of the second
pub either_get : {X : Type 0} → (xs ys : List X) (k : ℕ) (y : X) → slice_get (xs ++ ys) k ≡ Some y → (slice_get xs k ≡ Some y) ⊎ ((j : ℕ) × (k ≡ length xs + j) × (slice_get ys j ≡ Some y))
either_get [] ys k y e = inr (k, omega arith, e)
either_get (x ∷ xs) ys zero y e = inl e
either_get (x ∷ xs) ys (suc k) y e = by (either_get xs ys k y e)
  where
    by : (slice_get xs k ≡ Some y) ⊎ ((j : ℕ) × (k ≡ length xs + j) × (slice_get ys j ≡ Some y)) → (slice_get xs k ≡ Some y) ⊎ ((j : ℕ) × (suc k ≡ suc (length xs) + j) × (slice_get ys j ≡ Some y))
    by (inl h) = inl h
    by (inr h) = let n = h.1 in inr (h.0, omega (arith, n), h.2)

-- the list that an element stands in, and its place there
pub record StandsIn {X Y : Type 0} (f : X → List Y) (xs : List X) (k : ℕ) (y : Y) : Type 0 where
  pub outer : ℕ
  pub thing : X
  pub there : slice_get xs outer ≡ Some thing
  pub inner : ℕ
  pub has : slice_get (f thing) inner ≡ Some y
  pub place_is : k ≡ begins f xs outer + inner

pub stands_in : {X Y : Type 0} → (f : X → List Y) (xs : List X) (k : ℕ) (y : Y) → slice_get (flat_map f xs) k ≡ Some y → StandsIn f xs k y
stands_in f [] k y e = absurd cc
stands_in {Y = Y} f (x ∷ xs) k y e = by (either_get (f x) (flat_map f xs) k y e) (stands_in f xs)
  where
    by : (slice_get (f x) k ≡ Some y) ⊎ ((j : ℕ) × (k ≡ length (f x) + j) × (slice_get (flat_map f xs) j ≡ Some y)) → ((k : ℕ) (y : Y) → slice_get (flat_map f xs) k ≡ Some y → StandsIn f xs k y) → StandsIn f (x ∷ xs) k y
    by (inl h) rest = record { outer = 0; thing = x; there = refl; inner = k; has = h; place_is = omega arith }
    by (inr h) rest = let s = rest h.0 y h.2 in let a = s.place_is in let b = h.1 in record { outer = suc s.outer; thing = s.thing; there = s.there; inner = s.inner; has = s.has; place_is = omega (arith, a, b) }

-- ---- how many members are still to come

next_some : (left n : ℕ) → 0 < left → left_next left n ≡ left - 1
next_some left n l = let some : nat_eq left 0 ≡ false = ne_eqb left 0 (λ e. omega arith) in λ i. cond (some i) n (left - 1)

at_start : (xs : List ℤ) → left_at xs 0 ≡ 0
unfolding left_at
at_start xs = refl

at_next : (xs : List ℤ) (i : ℕ) → left_at xs (suc i) ≡ left_next (left_at xs i) (number_at xs i)
unfolding left_at
at_next xs i = refl

-- within a list that begins at a place
pub inside : (xs : List ℤ) (p n k : ℕ) → left_at xs p ≡ 0 → number_at xs p ≡ n → k ≤ n → left_at xs (p + 1 + k) ≡ n - k
inside xs p n zero z e l =
    let place : p + 1 + 0 ≡ suc p = omega arith in
    let whole : n ≡ n - 0 = omega arith in
    ap (left_at xs) place ∙ at_next xs p ∙ (λ i. left_next (z i) (e i)) ∙ whole
inside xs p n (suc k) z e l =
    let place : p + 1 + suc k ≡ suc (p + 1 + k) = omega arith in
    let before : left_at xs (p + 1 + k) ≡ n - k = inside xs p n k z e (omega arith) in
    let less : n - k - 1 ≡ n - suc k = omega arith in
    ap (left_at xs) place ∙ at_next xs (p + 1 + k) ∙ ap (λ w. left_next w (number_at xs (p + 1 + k))) before ∙ next_some (n - k) (number_at xs (p + 1 + k)) (omega arith) ∙ less

-- ---- the array of lists

module _ (order : List ℕ) (lists : List (List ActionId)) where
  abbrev pub array : List ℤ
  array = actions_of order lists

  abbrev pub begin : ℕ → ℕ
  begin i = 1 + begins (elements_of order) lists i

  elements_count : (l : List ActionId) → length (elements_of order l) ≡ suc (length l)
  elements_count l = let n = length-map l (λ (x : ActionId). pos (number_in order x.0)) in omega (arith, n)

  pub element_get : (i j : ℕ) (l : List ActionId) (x : ℤ) → slice_get lists i ≡ Some l → slice_get (elements_of order l) j ≡ Some x → slice_get array (begin i + j) ≡ Some x
  element_get i j l x e h =
      let next : begin i + j ≡ (begins (elements_of order) lists i + j) + 1 = omega arith in
      ap (slice_get array) next ∙ next_get (pos 0) (flat_map (elements_of order) lists) (begins (elements_of order) lists i + j) ∙ in_segment (elements_of order) lists i j l x e h

  count_there : (i : ℕ) (l : List ActionId) → slice_get lists i ≡ Some l → number_at array (begin i) ≡ length l
  count_there i l e =
      let none : begin i ≡ begin i + 0 = omega arith in
      ap (number_at array) none ∙ number_is array (begin i + 0) (pos (length l)) (element_get i 0 l (pos (length l)) e refl)

  pub begins_at : (i : ℕ) → i ≤ length lists → left_at array (begin i) ≡ 0
  begins_at zero h =
      let one : begin 0 ≡ suc 0 = first lists in
      ap (left_at array) one ∙ at_next array 0 ∙ ap (λ w. left_next w 0) (at_start array)
    where
      first : (lists : List (List ActionId)) → 1 + begins (elements_of order) lists 0 ≡ suc 0
      first [] = refl
      first (l ∷ lists) = refl
  begins_at (suc i) h =
      let l = element lists i (omega arith) in
      let n = begins_next (elements_of order) lists i l.0 l.1 in
      let c = elements_count l.0 in
      let place : begin (suc i) ≡ begin i + 1 + length l.0 = omega (arith, n, c) in
      let none : length l.0 - length l.0 ≡ 0 = omega arith in
      ap (left_at array) place ∙ inside array (begin i) (length l.0) (length l.0) (begins_at i (omega arith)) (count_there i l.0 l.1) (omega arith) ∙ none

  array_length : length array ≡ begin (length lists)
  array_length = let n = begins_all (elements_of order) lists in omega (arith, n)

  pub ends_at : left_at array (length array) ≡ 0
  ends_at = ap (left_at array) array_length ∙ begins_at (length lists) (omega arith)

  -- the list of a place begins there
  place_is : (list : List ActionId) (lists : List (List ActionId)) (start : ℕ) → list_any (same_actions list) lists ≡ true → (i : ℕ) × (l : List ActionId) × (slice_get lists i ≡ Some l) × (place_from start lists list ≡ start + begins (elements_of order) lists i)
  place_is list [] start e = absurd (true≢false (sym e))
  place_is list (l ∷ lists) start e = by (same_actions list l) e (place_is list lists (start + length l + 1))
    where
      by : (b : Bool) → (b || list_any (same_actions list) lists) ≡ true → (list_any (same_actions list) lists ≡ true → (i : ℕ) × (k : List ActionId) × (slice_get lists i ≡ Some k) × (place_from (start + length l + 1) lists list ≡ (start + length l + 1) + begins (elements_of order) lists i))
          → (i : ℕ) × (k : List ActionId) × (slice_get (l ∷ lists) i ≡ Some k) × (cond b start (place_from (start + length l + 1) lists list) ≡ start + begins (elements_of order) (l ∷ lists) i)
      by true h f = (0, l, refl, omega arith)
      by false h f = let p = f h in let n = p.3 in let c = elements_count l in (suc p.0, p.1, p.2, omega (arith, n, c))

  pub is_list : (list : List ActionId) → listed lists list ≡ true → IsList array (pos (place_in lists list))
  is_list [] e = record { positive = omega (arith, ints); within = omega arith; begins = at_start array }
  is_list (a ∷ list) e = subst (λ n. IsList array (pos n)) (sym (λ i. cond (no_list i) 0 (place_from 1 lists (a ∷ list)))) (subst (λ n. IsList array (pos n)) (sym p.3) (record {
    positive = omega (arith, ints);
    within = let l = slice_get_within array (begin p.0 + 0) (pos (length p.1)) (element_get p.0 0 p.1 (pos (length p.1)) p.2 refl) in omega (arith, l);
    begins = begins_at p.0 (let l = slice_get_within lists p.0 p.1 p.2 in omega (arith, l));
  }))
    where
      no_list : nat_eq (suc (length list)) 0 ≡ false
      no_list = ne_eqb (suc (length list)) 0 (λ e. omega arith)

      p : (i : ℕ) × (l : List ActionId) × (slice_get lists i ≡ Some l) × (place_from 1 lists (a ∷ list) ≡ 1 + begins (elements_of order) lists i)
      p = place_is (a ∷ list) lists 1 (some_listed lists a list e)

-- ---- its elements

any_at : {X : Type 0} → (p : X → Bool) (xs : List X) (i : ℕ) (x : X) → slice_get xs i ≡ Some x → p x ≡ true → list_any p xs ≡ true
any_at p [] i x e h = absurd cc
any_at p (y ∷ xs) zero x e h = let same : y ≡ x = cc in (λ i. p (same i) || list_any p xs) ∙ (λ i. h i || list_any p xs)
any_at p (y ∷ xs) (suc i) x e h = or_right (p y) (list_any p xs) (any_at p xs i x e h)

-- an element is the number of an action, or no member is to come before it
pub record IsElement (order : List ℕ) (lists : List (List ActionId)) (k : ℕ) (x : ℤ) : Type 0 where
  pub value : ℕ
  pub is : x ≡ pos value
  pub first : k ≡ 0 → value ≡ 0
  pub member : 0 < left_at (actions_of order lists) k → (1 ≤ value) × (value ≤ length order)

number_within : (order : List ℕ) (a : ℕ) → has_number order a ≡ true → (1 ≤ number_in order a) × (number_in order a ≤ length order)
number_within order a h =
    let p = numbered_place order a h in
    let n : number_in order a ≡ p.0 + 1 = ap (λ o. option_map_or (λ i. i + 1) o 0) p.1 in
    let l = slice_get_within order p.0 a p.2 in
    (omega (arith, n), omega (arith, n, l))

pub element_is : (lists : List (List ActionId)) (k : ℕ) (x : ℤ) → slice_get (actions_of (order_of lists) lists) k ≡ Some x → IsElement (order_of lists) lists k x
element_is lists zero x e = record { value = 0; is = (let s : x ≡ pos 0 = cc in s); first = λ _. refl; member = λ l. let z = at_start (actions_of (order_of lists) lists) in absurd (omega (arith, l, z)) }
element_is lists (suc k) x e = at s.inner s.has s.place_is
  where
    s : StandsIn (elements_of (order_of lists)) lists k x
    s = stands_in (elements_of (order_of lists)) lists k x e

    begun : left_at (actions_of (order_of lists) lists) (begin (order_of lists) lists s.outer) ≡ 0
    begun = begins_at (order_of lists) lists s.outer (let l = slice_get_within lists s.outer s.thing s.there in omega (arith, l))

    at : (j : ℕ) → slice_get (elements_of (order_of lists) s.thing) j ≡ Some x → k ≡ begins (elements_of (order_of lists)) lists s.outer + j → IsElement (order_of lists) lists (suc k) x
    at zero h q = record {
      value = length s.thing;
      is = (let f : x ≡ pos (length s.thing) = cc in f);
      first = λ z. absurd (omega arith);
      member = λ l. let place : suc k ≡ begin (order_of lists) lists s.outer = omega (arith, q) in let z = ap (left_at (actions_of (order_of lists) lists)) place ∙ begun in absurd (omega (arith, l, z));
    }
    at (suc j) h q = record { value = number_in (order_of lists) b.0.0; is = b.2; first = λ z. absurd (omega arith); member = λ _. number_within (order_of lists) b.0.0 numbered }
      where
        b : (y : ActionId) × (slice_get s.thing j ≡ Some y) × (x ≡ pos (number_in (order_of lists) y.0))
        b = made s.thing j h
          where
            made : (list : List ActionId) (j : ℕ) → slice_get (members_of (order_of lists) list) j ≡ Some x → (y : ActionId) × (slice_get list j ≡ Some y) × (x ≡ pos (number_in (order_of lists) y.0))
            made [] j e = absurd cc
            made (y ∷ list) zero e = (y, refl, (let f : x ≡ pos (number_in (order_of lists) y.0) = cc in f))
            made (y ∷ list) (suc j) e = made list j e

        numbered : has_number (order_of lists) b.0.0 ≡ true
        numbered = all_at (λ a. has_number (order_of lists) a ≡ true) (numbers s.thing) j b.0.0
            (actions_numbered lists s.thing (or_right (nat_eq (length s.thing) 0) (list_any (same_actions s.thing) lists) (any_at (same_actions s.thing) lists s.outer s.thing s.there (same_self s.thing))))
            (slice_get-map (λ (y : ActionId). y.0) s.thing j ∙ ap (option_map (λ (y : ActionId). y.0)) b.1)
