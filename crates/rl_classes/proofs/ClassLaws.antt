-- Pieces sorted by their numbers.
use Rattle.std.proofs.Common.{◌≡◌, ◌≢◌, ℕ, zero, suc, ◌+◌, ◌<◌, ◌≤◌, ◌⊎◌, ◌↔◌, max, Bool, true, false, cond, eqb, ltb, ◌||◌, not, List, [], ◌∷◌, ◌++◌, length, map, get_or, set, Option, Some, None, IsSome, refl, sym, ap, ◌∙◌, subst, inl, inr, arith, length-append, length-set}
use Rattle.std.specs.Prelude.{ℤ, ◌≤ℤ◌, ◌<ℤ◌, slice_get, position, AllPairs, nat_lt}
use Rattle.std.proofs.lemmas.Int.{ints}
use Rattle.std.proofs.lemmas.List.Sums.{position_or_len_is}
use Rattle.std.specs.List.{AllByRecursion, filter, list_any, position_or_len}
use Rattle.std.proofs.lemmas.Bool.{cases_lt, cases_eq}
use Rattle.std.proofs.lemmas.Bool.Decides.{nat_tests}
use Rattle.std.proofs.lemmas.List.{append-nil}
use Rattle.std.proofs.lemmas.Option.{slice_get_within, slice_get-get_or, slice_get_past}
use Rattle.indexmap.specs.IndexSet.{insert_key}
use Rattle.rl_types.specs.KeyRange.{Range, in_range}
use Rattle.rl_classes.specs.declared.pieces.Piece.{Piece}
use Rattle.rl_classes.specs.declared.classes.Sorted.{Sorted}
use Rattle.rl_classes.specs.Sets.{holds, GoesOn}
use Rattle.rl_classes.specs.Pieces.{Ordered, ranges_in, number_at, ranges_of}
use Rattle.rl_classes.specs.Classes.{EachClass, room_for, Sorts, class_of}
use Rattle.rl_classes.proofs.Numbers.{stays, one_place}
use Rattle.rl_classes.proofs.PieceLaws.{in_from, in_false}

-- a value that is not listed has its place behind the list
not_listed : {X : Type 0} → (p : X → Bool) (xs : List X) → list_any p xs ≡ false → position_or_len p xs ≡ length xs
not_listed p [] e = refl
not_listed p (x ∷ xs) e = (elim (p x) as (λ b. (b || list_any p xs) ≡ false → cond (not b) (1 + position_or_len p xs) 0 ≡ suc (length xs)) [
  | true ↦ λ f. absurd cc
  | false ↦ λ f. let rest = not_listed p xs f in omega (arith, rest)
]) e

pub needed_room : (ks : List ℕ) (x : ℕ) → length (insert_key eqb ks x) ≤ max (length ks) (position_or_len (eqb x) ks + 1)
needed_room ks x = (elim (list_any (eqb x) ks) as (λ b. list_any (eqb x) ks ≡ b → length (cond {A = List ℕ} b ks (ks ++ x ∷ [])) ≤ max (length ks) (position_or_len (eqb x) ks + 1)) [
  | true ↦ λ e. omega arith
  | false ↦ λ e. let last = not_listed (eqb x) ks e in rw (length-append ks (x ∷ [])) (omega (arith, last))
]) refl

-- pieces with the places of the numbers of others
abbrev pub AreNumbered : List ℕ → List Piece → List Piece → Type 0
AreNumbered ks [] [] = Unit {0}
AreNumbered ks (q ∷ qs) (p ∷ ps) = (q.range ≡ p.range) × (slice_get ks q.number ≡ Some p.number) × AreNumbered ks qs ps
AreNumbered ks [] (p ∷ ps) = ⊥
AreNumbered ks (q ∷ qs) [] = ⊥

numbered_grows : (ks whole : List ℕ) (qs ps : List Piece) → GoesOn ks whole → AreNumbered ks qs ps → AreNumbered whole qs ps
numbered_grows ks whole [] [] g h = tt
numbered_grows ks whole (q ∷ qs) (p ∷ ps) g h = (h.0, stays ks whole q.number p.number g h.1, numbered_grows ks whole qs ps g h.2)
numbered_grows ks whole [] (p ∷ ps) g h = absurd h
numbered_grows ks whole (q ∷ qs) [] g h = absurd h

numbered_push : (ks : List ℕ) (qs ps : List Piece) (q p : Piece) → AreNumbered ks qs ps → q.range ≡ p.range → slice_get ks q.number ≡ Some p.number → AreNumbered ks (qs ++ q ∷ []) (ps ++ p ∷ [])
numbered_push ks [] [] q p h e f = (e, f, tt)
numbered_push ks (r ∷ qs) (s ∷ ps) q p h e f = (h.0, h.1, numbered_push ks qs ps q p h.2 e f)
numbered_push ks [] (s ∷ ps) q p h e f = absurd h
numbered_push ks (r ∷ qs) [] q p h e f = absurd h

numbered_ranges : (ks : List ℕ) (qs ps : List Piece) → AreNumbered ks qs ps → ranges_in qs ≡ ranges_in ps
numbered_ranges ks [] [] h = refl
numbered_ranges ks (q ∷ qs) (p ∷ ps) h = rw (h.0, numbered_ranges ks qs ps h.2) refl
numbered_ranges ks [] (p ∷ ps) h = absurd h
numbered_ranges ks (q ∷ qs) [] h = absurd h

-- two answers that speak of the same listed number, or of none
abbrev SpeakAlike : List ℕ → Option ℕ → Option ℕ → Type 0
SpeakAlike ks None None = Unit {0}
SpeakAlike ks (Some n) (Some x) = slice_get ks n ≡ Some x
SpeakAlike ks None (Some x) = ⊥
SpeakAlike ks (Some n) None = ⊥

numbered_at : (ks : List ℕ) (qs ps : List Piece) (key : ℤ) → AreNumbered ks qs ps → SpeakAlike ks (number_at qs key) (number_at ps key)
numbered_at ks [] [] key h = tt
numbered_at ks (q ∷ qs) (p ∷ ps) key h = rw h.0 ((elim (in_range key p.range) as (λ b. SpeakAlike ks (cond b (Some q.number) (number_at qs key)) (cond b (Some p.number) (number_at ps key))) [
  | true ↦ h.1
  | false ↦ numbered_at ks qs ps key h.2
]))
numbered_at ks [] (p ∷ ps) key h = absurd h
numbered_at ks (q ∷ qs) [] key h = absurd h

some_is : (x y : ℕ) → Some x ≡ Some y → x ≡ y
some_is x y e = cc

alike_same : (ks : List ℕ) (a b x y : Option ℕ) → AllPairs (λ p q. p ≢ q) ks → SpeakAlike ks a x → SpeakAlike ks b y → (a ≡ b) ↔ (x ≡ y)
alike_same ks None None None None d h k = (λ e. refl, λ e. refl)
alike_same ks (Some n) (Some m) (Some x) (Some y) d h k = (λ e. let same : n ≡ m = some_is n m e in sym h ∙ ap (λ i. slice_get ks i) same ∙ k, λ e. ap (λ i. Some i) (one_place ks n m y d (h ∙ e) k))
alike_same ks None (Some m) None (Some y) d h k = (λ e. absurd cc, λ e. absurd cc)
alike_same ks (Some n) None (Some x) None d h k = (λ e. absurd cc, λ e. absurd cc)
alike_same ks None b (Some x) y d h k = absurd h
alike_same ks (Some n) b None y d h k = absurd h
alike_same ks None None None (Some y) d h k = absurd k
alike_same ks None (Some m) None None d h k = absurd k
alike_same ks (Some n) None (Some x) (Some y) d h k = absurd k
alike_same ks (Some n) (Some m) (Some x) None d h k = absurd k

alike_held : (ks : List ℕ) (a x : Option ℕ) → SpeakAlike ks a x → IsSome a ↔ IsSome x
alike_held ks None None h = (λ e. e, λ e. e)
alike_held ks (Some n) (Some x) h = (λ e. refl, λ e. refl)
alike_held ks None (Some x) h = absurd h
alike_held ks (Some n) None h = absurd h

-- the ranges of a number, with one piece more
ranges_of-push : (c : ℕ) (qs : List Piece) (q : Piece) → ranges_of c (qs ++ q ∷ []) ≡ ranges_of c qs ++ cond (eqb q.number c) (q.range ∷ []) []
ranges_of-push c [] q = (elim (eqb q.number c) as (λ b. ranges_in (cond b (q ∷ []) []) ≡ cond b (q.range ∷ []) []) [ true ↦ refl | false ↦ refl ])
ranges_of-push c (p ∷ qs) q = (elim (eqb p.number c) as (λ b. ranges_in (cond b (p ∷ filter (λ r. eqb r.number c) (qs ++ q ∷ [])) (filter (λ r. eqb r.number c) (qs ++ q ∷ []))) ≡ ranges_in (cond b (p ∷ filter (λ r. eqb r.number c) qs) (filter (λ r. eqb r.number c) qs)) ++ cond (eqb q.number c) (q.range ∷ []) []) [
  | true ↦ ap (λ rs. p.range ∷ rs) (ranges_of-push c qs q)
  | false ↦ ranges_of-push c qs q
])

ranges_of-none : (c n : ℕ) (qs : List Piece) → AllByRecursion (λ q. q.number < n) qs → n ≤ c → ranges_of c qs ≡ []
ranges_of-none c n [] h le = refl
ranges_of-none c n (q ∷ qs) h le =
    let less = h.0 in
    let other : eqb q.number c ≡ false = grind (arith, nat_tests) in
    rw other (ranges_of-none c n qs h.1 le)

all_less : (n m : ℕ) (qs : List Piece) → n ≤ m → AllByRecursion (λ q. q.number < n) qs → AllByRecursion (λ q. q.number < m) qs
all_less n m [] le h = tt
all_less n m (q ∷ qs) le h = (let less = h.0 in omega (arith, less), all_less n m qs le h.1)

all_push : (n : ℕ) (qs : List Piece) (q : Piece) → AllByRecursion (λ q. q.number < n) qs → q.number < n → AllByRecursion (λ q. q.number < n) (qs ++ q ∷ [])
all_push n [] q h k = (k, tt)
all_push n (r ∷ qs) q h k = (h.0, all_push n qs q h.1 k)

-- elements of a list with one place written, and with room for one more
get_set_same : {X : Type 0} → (xs : List X) (i : ℕ) (y : X) → i < length xs → slice_get (set xs i y) i ≡ Some y
get_set_same [] i y lt = absurd (omega arith)
get_set_same (x ∷ xs) zero y lt = refl
get_set_same (x ∷ xs) (suc i) y lt = get_set_same xs i y (omega arith)

get_set_other : {X : Type 0} → (xs : List X) (i j : ℕ) (y : X) → j ≢ i → slice_get (set xs i y) j ≡ slice_get xs j
get_set_other [] i j y ne = refl
get_set_other (x ∷ xs) zero zero y ne = absurd (ne refl)
get_set_other (x ∷ xs) zero (suc j) y ne = refl
get_set_other (x ∷ xs) (suc i) zero y ne = refl
get_set_other (x ∷ xs) (suc i) (suc j) y ne = get_set_other xs i j y (λ e. ne (ap suc e))

get_push : {X : Type 0} → (xs : List X) (y : X) (j : ℕ) (z : X) → slice_get (xs ++ y ∷ []) j ≡ Some z → (slice_get xs j ≡ Some z) ⊎ ((j ≡ length xs) × (z ≡ y))
get_push [] y zero z e = inr (refl, cc)
get_push [] y (suc j) z e = absurd cc
get_push (x ∷ xs) y zero z e = inl e
get_push (x ∷ xs) y (suc j) z e = elim (get_push xs y j z e) [ inl h ↦ inl h | inr h ↦ inr (ap suc h.0, h.1) ]

get_room : (n : ℕ) (classes : List (List Range)) (j : ℕ) (r : List Range) → slice_get (room_for n classes) j ≡ Some r → (slice_get classes j ≡ Some r) ⊎ ((j ≡ length classes) × (r ≡ []) × (length classes < n))
get_room n classes j r = (elim (ltb (length classes) n) as (λ b. ltb (length classes) n ≡ b → slice_get (cond {A = List (List Range)} b (classes ++ [] ∷ []) classes) j ≡ Some r → (slice_get classes j ≡ Some r) ⊎ ((j ≡ length classes) × (r ≡ []) × (length classes < n))) [
  | true ↦ λ t e. elim (get_push classes [] j r e) [ inl h ↦ inl h | inr h ↦ inr (h.0, h.1, grind (arith, nat_tests)) ]
  | false ↦ λ t e. inl e
]) refl

length_room : (n : ℕ) (classes : List (List Range)) → length classes ≤ n → n ≤ length classes + 1 → length (room_for n classes) ≡ n
length_room n classes low high = (elim (ltb (length classes) n) as (λ b. ltb (length classes) n ≡ b → length (cond {A = List (List Range)} b (classes ++ [] ∷ []) classes) ≡ n) [
  | true ↦ λ t. rw (length-append classes ([] ∷ [])) (grind (arith, nat_tests))
  | false ↦ λ t. grind (arith, nat_tests)
]) refl

-- how far pieces are sorted
pub record Gathers (ks : List ℕ) (classes : List (List Range)) (qs ps : List Piece) : Type 0 where
  pub numbers : AreNumbered ks qs ps
  pub lists : EachClass classes (λ c ranges. ranges ≡ ranges_of c qs)
  pub used : EachClass classes (λ c ranges. 0 < length ranges)
  pub within : AllByRecursion (λ q. q.number < length classes) qs
  pub distinct : AllPairs (λ p q. p ≢ q) ks
  pub same_length : length classes ≡ length ks
  pub few : length ks ≤ length ps

pub gather_begins : (ks : List ℕ) (classes : List (List Range)) (qs : List Piece) → ks ≡ [] → classes ≡ [] → qs ≡ [] → Gathers ks classes qs []
gather_begins ks classes qs a b c = rw (a, b, c) (record {
  numbers = tt;
  lists = λ n r e. absurd cc;
  used = λ n r e. absurd cc;
  within = tt;
  distinct = λ i j d lt k. absurd (omega arith);
  same_length = refl;
  few = omega arith;
})

pub gather_ends : (pieces ps : List Piece) (ks : List ℕ) (s : Sorted) → ps ≡ pieces → Gathers ks s.classes.items s.pieces.items ps → Sorts pieces s
gather_ends pieces ps ks s whole g = rw (← whole) (record {
  same = λ k l. alike_same ks _ _ _ _ g.distinct (numbered_at ks s.pieces.items ps k g.numbers) (numbered_at ks s.pieces.items ps l g.numbers);
  held = λ key. alike_held ks _ _ (numbered_at ks s.pieces.items ps key g.numbers);
  ranges_are = numbered_ranges ks s.pieces.items ps g.numbers;
  lists = g.lists;
  within = g.within;
  used = g.used;
  few = let few = g.few in let same = g.same_length in omega (arith, few, same);
})

-- with a number's list made longer by a range
module _ (ks whole : List ℕ) (classes more : List (List Range)) (qs ps : List Piece) (p : Piece) (n : ℕ) (g : Gathers ks classes qs ps) (on : GoesOn ks whole) (is : slice_get whole n ≡ Some p.number)
    (one_more : length whole ≤ length ks + 1) (needed : length whole ≤ max (length ks) (n + 1)) where
  abbrev here : Piece
  here = record { range = p.range; number = n }

  longer : length ks ≤ length whole
  longer = let e : length whole ≡ length ks + length on.0 = rw on.1 (length-append ks on.0) in omega (arith, e)

  pub room_length : length (room_for (length whole) classes) ≡ length whole
  room_length = let same = g.same_length in length_room (length whole) classes (let l = longer in omega (arith, same, l)) (omega (arith, same, one_more))

  pub has_room : n < length (room_for (length whole) classes)
  has_room = rw room_length (slice_get_within whole n p.number is)

  -- before the range is put there
  room_lists : EachClass (room_for (length whole) classes) (λ c ranges. ranges ≡ ranges_of c qs)
  room_lists c ranges e = elim (get_room (length whole) classes c ranges e) [
    | inl old ↦ g.lists c ranges old
    | inr new ↦ new.1 ∙ sym (ranges_of-none c (length classes) qs g.within (omega (arith, new.0)))
  ]

  room_used : EachClass (room_for (length whole) classes) (λ c ranges. c ≢ n → 0 < length ranges)
  room_used c ranges e ne = elim (get_room (length whole) classes c ranges e) [
    | inl old ↦ g.used c ranges old
    | inr new ↦ let same = g.same_length in let within = has_room in let count = room_length in let at = new.0 in let lt = new.2 in absurd (ne (omega (arith, same, within, count, needed, at, lt, one_more)))
  ]

  last_list : get_or (room_for (length whole) classes) n [] ≡ ranges_of n qs
  last_list = room_lists n _ (slice_get-get_or (room_for (length whole) classes) n [] has_room)

  others : (c : ℕ) → c ≢ n → ranges_of c (qs ++ here ∷ []) ≡ ranges_of c qs
  others c ne = let other : eqb n c ≡ false = grind (arith, nat_tests) in ranges_of-push c qs here ∙ rw other (append-nil (ranges_of c qs))

  itself : ranges_of n (qs ++ here ∷ []) ≡ ranges_of n qs ++ p.range ∷ []
  itself = let same : eqb n n ≡ true = grind (arith, nat_tests) in ranges_of-push n qs here ∙ rw same refl

  more_lists : more ≡ set (room_for (length whole) classes) n (get_or (room_for (length whole) classes) n [] ++ p.range ∷ []) → EachClass more (λ c ranges. (ranges ≡ ranges_of c (qs ++ here ∷ [])) × (0 < length ranges))
  more_lists more_is c ranges e = elim (cases_eq c n) [
    | inl same ↦
        let at : slice_get more n ≡ Some ranges = rw (← same) e in
        let new : slice_get more n ≡ Some (ranges_of n qs ++ p.range ∷ []) = rw (more_is, last_list) (get_set_same (room_for (length whole) classes) n _ has_room) in
        let is : ranges ≡ ranges_of n qs ++ p.range ∷ [] = lists_is _ _ (sym at ∙ new) in
        rw same (is ∙ sym itself, rw is (let l = length-append (ranges_of n qs) (p.range ∷ []) in omega (arith, l)))
    | inr other ↦
        let at : slice_get (set (room_for (length whole) classes) n (get_or (room_for (length whole) classes) n [] ++ p.range ∷ [])) c ≡ Some ranges = rw (← more_is) e in
        let old : slice_get (room_for (length whole) classes) c ≡ Some ranges = sym (get_set_other (room_for (length whole) classes) n c _ other) ∙ at in
        (room_lists c ranges old ∙ sym (others c other), room_used c ranges old other)
  ]
    where
      lists_is : (x y : List Range) → Some x ≡ Some y → x ≡ y
      lists_is x y e = cc

  pub gather_more : AllPairs (λ p q. p ≢ q) whole → more ≡ set (room_for (length whole) classes) n (get_or (room_for (length whole) classes) n [] ++ p.range ∷ []) → (longer_qs : List Piece) → longer_qs ≡ qs ++ here ∷ [] → Gathers whole more longer_qs (ps ++ p ∷ [])
  gather_more distinct more_is longer_qs qs_is =
      let count : length more ≡ length whole = rw more_is (length-set (room_for (length whole) classes) n _ ∙ room_length) in
      let same = g.same_length in let l = longer in let few = g.few in
      rw qs_is (record {
        numbers = numbered_push whole qs ps here p (numbered_grows ks whole qs ps on g.numbers) refl is;
        lists = λ c ranges e. (more_lists more_is c ranges e).0;
        used = λ c ranges e. (more_lists more_is c ranges e).1;
        within = all_push (length more) qs here (all_less (length classes) (length more) qs (omega (arith, count, same, l)) g.within) (let within = has_room in let r = room_length in omega (arith, within, r, count));
        distinct = distinct;
        same_length = count;
        few = let e = length-append ps (p ∷ []) in omega (arith, few, one_more, e);
      })

-- whether an answer is this number
abbrev pub is_number : ℕ → Option ℕ → Bool
is_number c None = false
is_number c (Some n) = eqb n c

behind_all : (key : ℤ) (c : ℕ) (qs : List Piece) → AllByRecursion (λ r. key <ℤ r.lo) (ranges_in qs) → list_any (in_range key) (ranges_of c qs) ≡ false
behind_all key c [] h = refl
behind_all key c (q ∷ qs) h = (elim (eqb q.number c) as (λ b. list_any (in_range key) (ranges_in (cond b (q ∷ filter (λ r. eqb r.number c) qs) (filter (λ r. eqb r.number c) qs))) ≡ false) [
  | true ↦ rw (in_false q.range key (inl h.0)) (behind_all key c qs h.1)
  | false ↦ behind_all key c qs h.1
])

pub all_above : (low key : ℤ) (ranges : List Range) → key ≤ℤ low → AllByRecursion (λ r. low <ℤ r.lo) ranges → AllByRecursion (λ r. key <ℤ r.lo) ranges
all_above low key [] le h = tt
all_above low key (r ∷ ranges) le h = (let lt = h.0 in omega (arith, ints, lt, le), all_above low key ranges le h.1)

-- the ranges of a number hold a key exactly where its piece has the number
pub held_is : (key : ℤ) (c : ℕ) (qs : List Piece) → Ordered (ranges_in qs) → holds key (ranges_of c qs) ≡ is_number c (number_at qs key)
held_is key c [] up = refl
held_is key c (q ∷ qs) up = (elim (in_range key q.range) as (λ b. in_range key q.range ≡ b → holds key (ranges_of c (q ∷ qs)) ≡ is_number c (cond b (Some q.number) (number_at qs key))) [
  | true ↦ λ t.
      let rest = behind_all key c qs (all_above q.range.hi key (ranges_in qs) (in_from q.range key t).1 up.1) in
      (elim (eqb q.number c) as (λ b. list_any (in_range key) (ranges_in (cond b (q ∷ filter (λ r. eqb r.number c) qs) (filter (λ r. eqb r.number c) qs))) ≡ b) [
        | true ↦ rw t refl
        | false ↦ rest
      ])
  | false ↦ λ t.
      let rest = held_is key c qs up.2 in
      (elim (eqb q.number c) as (λ b. list_any (in_range key) (ranges_in (cond b (q ∷ filter (λ r. eqb r.number c) qs) (filter (λ r. eqb r.number c) qs))) ≡ is_number c (number_at qs key)) [
        | true ↦ rw t rest
        | false ↦ rest
      ])
]) refl

ordered_filter : (p : Piece → Bool) (r : Range) (qs : List Piece) → AllByRecursion (λ s. r.hi <ℤ s.lo) (ranges_in qs) → AllByRecursion (λ s. r.hi <ℤ s.lo) (ranges_in (filter p qs))
ordered_filter p r [] h = tt
ordered_filter p r (q ∷ qs) h = (elim (p q) as (λ b. AllByRecursion (λ s. r.hi <ℤ s.lo) (ranges_in (cond b (q ∷ filter p qs) (filter p qs)))) [
  | true ↦ (h.0, ordered_filter p r qs h.1)
  | false ↦ ordered_filter p r qs h.1
])

pub Ordered-filter : (p : Piece → Bool) (qs : List Piece) → Ordered (ranges_in qs) → Ordered (ranges_in (filter p qs))
Ordered-filter p [] h = tt
Ordered-filter p (q ∷ qs) h = (elim (p q) as (λ b. Ordered (ranges_in (cond b (q ∷ filter p qs) (filter p qs)))) [
  | true ↦ (h.0, ordered_filter p q.range qs h.1, Ordered-filter p qs h.2)
  | false ↦ Ordered-filter p qs h.2
])

abbrev IsBelow : ℕ → Option ℕ → Type 0
IsBelow n None = Unit {0}
IsBelow n (Some x) = x < n

number_below : (n : ℕ) (qs : List Piece) (key : ℤ) → AllByRecursion (λ q. q.number < n) qs → IsBelow n (number_at qs key)
number_below n [] key h = tt
number_below n (q ∷ qs) key h = (elim (in_range key q.range) as (λ b. IsBelow n (cond b (Some q.number) (number_at qs key))) [
  | true ↦ h.0
  | false ↦ number_below n qs key h.1
])

position_at : {X : Type 0} → (p : X → Bool) (xs : List X) (d : X) (o : Option ℕ) → ((j : ℕ) → j < length xs → p (get_or xs j d) ≡ is_number j o) → IsBelow (length xs) o → position p xs ≡ o
position_at p xs d None each below =
    let len : position_or_len p xs ≡ length xs = position_or_len_is p xs (length xs) d (omega arith) (λ k lt. each k lt) (λ lt. absurd (omega arith)) in
    let no : ltb (length xs) (length xs) ≡ false = grind (arith, nat_tests) in
    rw (len, no) refl
position_at p xs d (Some n) each below =
    let same : eqb n n ≡ true = grind (arith, nat_tests) in
    let len : position_or_len p xs ≡ n = position_or_len_is p xs n d (omega (arith, below)) (λ k lt. each k (omega (arith, lt, below)) ∙ other n k lt) (λ lt. each n below ∙ same) in
    let yes : ltb n (length xs) ≡ true = grind (arith, nat_tests) in
    rw (len, yes) refl
  where
    other : (n k : ℕ) → k < n → eqb n k ≡ false
    other n k lt = grind (arith, nat_tests)

-- the class of a key is the number of its piece
pub class_is : (pieces : List Piece) (s : Sorted) → Sorts pieces s → Ordered (ranges_in s.pieces.items) → (key : ℤ) → class_of s.classes.items key ≡ number_at s.pieces.items key
class_is pieces s h up key =
    position_at (holds key) s.classes.items [] (number_at s.pieces.items key)
    (λ j lt. let e = h.lists j _ (slice_get-get_or s.classes.items j [] lt) in rw e (held_is key j s.pieces.items up))
    (number_below (length s.classes.items) s.pieces.items key h.within)
