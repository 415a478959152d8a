-- The keys of an alphabet, cut into ranges at which a function is constant.
use Rattle.std.proofs.Common.{◌≡◌, ℕ, suc, ◌+◌, ◌<◌, ◌≤◌, ◌⊎◌, Bool, true, false, cond, ◌&&◌, List, [], ◌∷◌, ◌++◌, length, take, drop, map, Option, Some, None, refl, sym, ap, ◌∙◌, subst, inl, inr, arith, length-append}
use Rattle.std.proofs.lemmas.List.{append-nil}
use Rattle.std.specs.Prelude.{ℤ, pos, ◌+ℤ◌, ◌-ℤ◌, ◌≤ℤ◌, ◌<ℤ◌, int_le, int_lt}
use Rattle.std.specs.Int.{int_min, int_max}
use Rattle.std.specs.Option.{option_or}
use Rattle.std.specs.List.{AllByRecursion}
use Rattle.std.proofs.lemmas.Int.{ints, int_min_is, int_max_is}
use Rattle.rl_types.specs.declared.alphabet.Alphabet.{Alphabet}
use Rattle.rl_types.specs.declared.alphabet.Alphabet.TheVariants.{Char, UnsignedChar, Short, UnsignedShort, Int, UnsignedInt}
use Rattle.rl_types.specs.Alphabet.{has_key, least_key, greatest_key}
use Rattle.rl_classes.specs.declared.steps.Steps.{Steps}
use Rattle.rl_types.specs.KeyRange.{Range, in_range}
use Rattle.rl_classes.specs.declared.steps.Step.{Step}
use Rattle.rl_classes.specs.declared.pieces.Piece.{Piece}
use Rattle.rl_classes.specs.Steps.{IsBelowFirst, Ascend, froms, value_from, value_at}
use Rattle.rl_classes.specs.Pieces.{Ordered, ranges_in, number_at, piece_up_to, CutsInto}
use Rattle.rl_classes.proofs.StepLaws.{le_from, above_from, le_true, le_false, cases_le, back_ascends}

lt_from : (x y : ℤ) → int_lt x y ≡ true → x <ℤ y
lt_from x y e = grind (arith, ints)

pub in_from : (r : Range) (key : ℤ) → in_range key r ≡ true → (r.lo ≤ℤ key) × (key ≤ℤ r.hi)
in_from r key e = (grind (arith, ints), grind (arith, ints))

pub in_true : (r : Range) (key : ℤ) → r.lo ≤ℤ key → key ≤ℤ r.hi → in_range key r ≡ true
in_true r key low high = grind (arith, ints)

pub in_false : (r : Range) (key : ℤ) → (key <ℤ r.lo) ⊎ (r.hi <ℤ key) → in_range key r ≡ false
in_false r key (inl lt) = grind (arith, ints)
in_false r key (inr gt) = grind (arith, ints)

pub number_at-append : (xs ys : List Piece) (key : ℤ) → number_at (xs ++ ys) key ≡ option_or (number_at xs key) (number_at ys key)
number_at-append [] ys key = refl
number_at-append (p ∷ xs) ys key = (elim (in_range key p.range) as (λ b. cond b (Some p.number) (number_at (xs ++ ys) key) ≡ option_or (cond b (Some p.number) (number_at xs key)) (number_at ys key)) [
  | true ↦ refl
  | false ↦ number_at-append xs ys key
])

below_next : (key from : ℤ) (ks : List ℤ) → key <ℤ from → IsBelowFirst from ks → IsBelowFirst key ks
below_next key from [] lt h = tt
below_next key from (k ∷ ks) lt h = omega (arith, ints, h, lt)

-- before the first step a function has the value that it had
pub value_before : {T : Type 0} → (first : T) (steps : List (Step T)) (key : ℤ) → IsBelowFirst key (froms steps) → Ascend (froms steps) → value_from first steps key ≡ first
value_before first [] key below up = refl
value_before first (s ∷ steps) key below up = rw (le_false s.from key below) (value_before first steps key (below_next key s.from (froms steps) below up.0) up.1)

-- a piece up to a key has the keys before it
up_to_in : (lo end : ℤ) (n : ℕ) (key : ℤ) → lo ≤ℤ key → key <ℤ end → number_at (piece_up_to lo end n) key ≡ Some n
up_to_in lo end n key low high =
    let some : int_lt lo end ≡ true = grind (arith, ints) in
    let in_it : in_range key (record { lo = lo; hi = end -ℤ pos 1 }) ≡ true = in_true _ key low (omega (arith, ints)) in
    rw (some, in_it) refl

up_to_out : (lo end : ℤ) (n : ℕ) (key : ℤ) → (key <ℤ lo) ⊎ (end ≤ℤ key) → number_at (piece_up_to lo end n) key ≡ None
up_to_out lo end n key out = (elim (int_lt lo end) as (λ b. number_at (cond b (record { range = record { lo = lo; hi = end -ℤ pos 1 }; number = n } ∷ []) []) key ≡ None) [
  | true ↦ let off : in_range key (record { lo = lo; hi = end -ℤ pos 1 }) ≡ false = in_false _ key (elim out [ inl lt ↦ inl lt | inr ge ↦ inr (omega (arith, ints, ge)) ]) in rw off refl
  | false ↦ refl
])

below_more : (lo end : ℤ) (ranges : List Range) → lo ≤ℤ end → AllByRecursion (λ r. r.hi <ℤ lo) ranges → AllByRecursion (λ r. r.hi <ℤ end) ranges
below_more lo end [] le h = tt
below_more lo end (r ∷ ranges) le h = (let lt = h.0 in omega (arith, ints, lt, le), below_more lo end ranges le h.1)

all_push : {X : Type 0} → (P : X → Type 0) (xs : List X) (y : X) → AllByRecursion P xs → P y → AllByRecursion P (xs ++ y ∷ [])
all_push P [] y h k = (k, tt)
all_push P (x ∷ xs) y h k = (h.0, all_push P xs y h.1 k)

ordered_push : (ranges : List Range) (r : Range) → Ordered ranges → r.lo ≤ℤ r.hi → AllByRecursion (λ s. s.hi <ℤ r.lo) ranges → Ordered (ranges ++ r ∷ [])
ordered_push [] r h up below = (up, tt, tt)
ordered_push (s ∷ ranges) r h up below = (h.0, all_push (λ t. s.hi <ℤ t.lo) ranges r h.1 below.0, ordered_push ranges r h.2 up below.1)

ranges_in-append : (xs ys : List Piece) → ranges_in (xs ++ ys) ≡ ranges_in xs ++ ranges_in ys
ranges_in-append [] ys = refl
ranges_in-append (p ∷ xs) ys = ap (λ rs. p.range ∷ rs) (ranges_in-append xs ys)

-- how far a function is cut into pieces: up to which key, the number that stands from there on, and the steps that are left
module _ (first : ℕ) (later : List (Step ℕ)) (least behind : ℤ) where
  pub record Cuts (pieces : List Piece) (lo : ℤ) (number : ℕ) (rest : List (Step ℕ)) : Type 0 where
    pub inside : (key : ℤ) → least ≤ℤ key → key <ℤ lo → number_at pieces key ≡ Some (value_from first later key)
    pub outside : (key : ℤ) → (key <ℤ least) ⊎ (lo ≤ℤ key) → number_at pieces key ≡ None
    pub standing : (key : ℤ) → lo ≤ℤ key → key <ℤ behind → value_from first later key ≡ value_from number rest key
    pub low : least ≤ℤ lo
    pub high : lo ≤ℤ behind
    pub below : AllByRecursion (λ r. r.hi <ℤ lo) (ranges_in pieces)
    pub ordered : Ordered (ranges_in pieces)
    pub ascends : Ascend (froms rest)
    pub few : length pieces + length rest ≤ length later

  -- the pieces with one more, up to a key that is not beyond the next step
  inside_more : (pieces : List Piece) (lo end : ℤ) (number : ℕ) (rest : List (Step ℕ)) → Cuts pieces lo number rest → lo ≤ℤ end → end ≤ℤ behind → ((key : ℤ) → lo ≤ℤ key → key <ℤ end → value_from number rest key ≡ number) →
      (key : ℤ) → least ≤ℤ key → key <ℤ end → number_at (pieces ++ piece_up_to lo end number) key ≡ Some (value_from first later key)
  inside_more pieces lo end number rest c up in_it same key low high = rw (number_at-append pieces (piece_up_to lo end number) key) (elim (cases_le lo key) [
    | inl le ↦ rw (c.outside key (inr le), up_to_in lo end number key le high) (ap (λ n. Some n) (sym (c.standing key le (omega (arith, ints, high, in_it)) ∙ same key le high)))
    | inr gt ↦ rw (c.inside key low gt) refl
  ])

  outside_more : (pieces : List Piece) (lo end : ℤ) (number : ℕ) (rest : List (Step ℕ)) → Cuts pieces lo number rest → lo ≤ℤ end → (key : ℤ) → (key <ℤ least) ⊎ (end ≤ℤ key) → number_at (pieces ++ piece_up_to lo end number) key ≡ None
  outside_more pieces lo end number rest c up key out =
      let low = c.low in
      let off : (key <ℤ least) ⊎ (lo ≤ℤ key) = elim out [ inl lt ↦ inl lt | inr ge ↦ inr (omega (arith, ints, ge, up)) ] in
      let away : (key <ℤ lo) ⊎ (end ≤ℤ key) = elim out [ inl lt ↦ inl (omega (arith, ints, lt, low)) | inr ge ↦ inr ge ] in
      rw (number_at-append pieces (piece_up_to lo end number) key, c.outside key off, up_to_out lo end number key away) refl

  below_push : (pieces : List Piece) (lo end : ℤ) (number : ℕ) → lo ≤ℤ end → AllByRecursion (λ r. r.hi <ℤ lo) (ranges_in pieces) → AllByRecursion (λ r. r.hi <ℤ end) (ranges_in (pieces ++ piece_up_to lo end number))
  below_push pieces lo end number up below = rw (ranges_in-append pieces (piece_up_to lo end number)) ((elim (int_lt lo end) as (λ b. AllByRecursion (λ r. r.hi <ℤ end) (ranges_in pieces ++ ranges_in (cond b (record { range = record { lo = lo; hi = end -ℤ pos 1 }; number = number } ∷ []) []))) [
    | true ↦ all_push (λ r. r.hi <ℤ end) (ranges_in pieces) (record { lo = lo; hi = end -ℤ pos 1 }) (below_more lo end (ranges_in pieces) up below) (omega (arith, ints))
    | false ↦ rw (append-nil (ranges_in pieces)) (below_more lo end (ranges_in pieces) up below)
  ]))

  ordered_more : (pieces : List Piece) (lo end : ℤ) (number : ℕ) → AllByRecursion (λ r. r.hi <ℤ lo) (ranges_in pieces) → Ordered (ranges_in pieces) → Ordered (ranges_in (pieces ++ piece_up_to lo end number))
  ordered_more pieces lo end number below up = rw (ranges_in-append pieces (piece_up_to lo end number)) ((elim (int_lt lo end) as (λ b. int_lt lo end ≡ b → Ordered (ranges_in pieces ++ ranges_in (cond b (record { range = record { lo = lo; hi = end -ℤ pos 1 }; number = number } ∷ []) []))) [
    | true ↦ λ t. let lt = lt_from lo end t in ordered_push (ranges_in pieces) (record { lo = lo; hi = end -ℤ pos 1 }) up (omega (arith, ints, lt)) below
    | false ↦ λ t. rw (append-nil (ranges_in pieces)) up
  ]) refl)

  few_more : (pieces : List Piece) (lo end : ℤ) (number : ℕ) → length (pieces ++ piece_up_to lo end number) ≤ length pieces + 1
  few_more pieces lo end number = rw (length-append pieces (piece_up_to lo end number)) ((elim (int_lt lo end) as (λ b. length pieces + length (cond {A = List Piece} b (record { range = record { lo = lo; hi = end -ℤ pos 1 }; number = number } ∷ []) []) ≤ length pieces + 1) [
    | true ↦ omega arith
    | false ↦ omega arith
  ]))

  pub cut_begins : (lo : ℤ) → lo ≡ least → least ≤ℤ behind → Ascend (froms later) → Cuts [] lo first later
  cut_begins lo is up rise = record {
    inside = λ key ge lt. absurd (omega (arith, ints, is, ge, lt));
    outside = λ key out. refl;
    standing = λ key ge lt. refl;
    low = omega (arith, ints, is);
    high = omega (arith, ints, is, up);
    below = tt;
    ordered = tt;
    ascends = rise;
    few = omega arith;
  }

  pub cut_more : (pieces more : List Piece) (lo end : ℤ) (number : ℕ) (s : Step ℕ) (rest : List (Step ℕ)) → Cuts pieces lo number (s ∷ rest) → end ≡ int_max (int_min s.from behind) lo → more ≡ pieces ++ piece_up_to lo end number → Cuts more end s.value rest
  cut_more pieces more lo end number s rest c end_is more_is =
      let low = c.low in let high = c.high in
      let least_of = int_min_is s.from behind in let most_of = int_max_is (int_min s.from behind) lo in
      let up : lo ≤ℤ end = omega (arith, ints, end_is, least_of, most_of) in
      let in_it : end ≤ℤ behind = omega (arith, ints, end_is, least_of, most_of, high) in
      let few = c.few in let longer = few_more pieces lo end number in
      rw more_is (record {
        inside = inside_more pieces lo end number (s ∷ rest) c up in_it (λ key le lt. value_before number (s ∷ rest) key (let first_up = c.ascends in omega (arith, ints, end_is, least_of, most_of, le, lt)) c.ascends);
        outside = outside_more pieces lo end number (s ∷ rest) c up;
        standing = λ key le lt.
            let passes : int_le s.from key ≡ true = le_true s.from key (omega (arith, ints, end_is, least_of, most_of, le, lt)) in
            c.standing key (omega (arith, ints, up, le)) lt ∙ rw passes refl;
        low = omega (arith, ints, low, up);
        high = in_it;
        below = below_push pieces lo end number up c.below;
        ordered = ordered_more pieces lo end number c.below c.ordered;
        ascends = c.ascends.1;
        few = omega (arith, few, longer);
      })

has_from : (least greatest key : ℤ) → (int_le least key && int_le key greatest) ≡ true → (least ≤ℤ key) × (key ≤ℤ greatest)
has_from least greatest key e = (grind (arith, ints), grind (arith, ints))

lacks_from : (least greatest key : ℤ) → (int_le least key && int_le key greatest) ≡ false → (key <ℤ least) ⊎ (greatest <ℤ key)
lacks_from least greatest key e = elim (cases_le least key) [
  | inl le ↦ elim (cases_le key greatest) [
    | inl low ↦ absurd (both le low)
    | inr gt ↦ inr gt
  ]
  | inr lt ↦ inl lt
]
  where
    both : least ≤ℤ key → key ≤ℤ greatest → ⊥
    both x y = grind (arith, ints)

-- with the last piece, all keys of the alphabet are in pieces
pub cuts_into : (f : Steps ℕ) (alphabet : Alphabet) (pieces more : List Piece) (lo behind : ℤ) (number : ℕ) → behind ≡ greatest_key alphabet +ℤ pos 1 → Cuts f.first f.later.items (least_key alphabet) behind pieces lo number [] → more ≡ pieces ++ piece_up_to lo behind number → CutsInto f alphabet more
cuts_into f alphabet pieces more lo behind number is c more_is = rw more_is (record {
  number = λ key. (elim (has_key alphabet key) as (λ b. has_key alphabet key ≡ b → number_at (pieces ++ piece_up_to lo behind number) key ≡ cond b (Some (value_at f key)) None) [
    | true ↦ λ e. let h = has_from _ _ key e in
        inside_more f.first f.later.items (least_key alphabet) behind pieces lo behind number [] c c.high (omega (arith, ints)) (λ k le lt. refl) key h.0 (let top = h.1 in omega (arith, ints, is, top))
    | false ↦ λ e. let h = lacks_from _ _ key e in
        outside_more f.first f.later.items (least_key alphabet) behind pieces lo behind number [] c c.high key (elim h [ inl lt ↦ inl lt | inr gt ↦ inr (omega (arith, ints, is, gt)) ])
  ]) refl;
  ordered = ordered_more f.first f.later.items (least_key alphabet) behind pieces lo behind number c.below c.ordered;
  few = let few = c.few in let longer = few_more f.first f.later.items (least_key alphabet) behind pieces lo behind number in omega (arith, few, longer);
})

pub keys_span : (alphabet : Alphabet) → least_key alphabet ≤ℤ (greatest_key alphabet +ℤ pos 1)
keys_span Char = omega (arith, ints)
keys_span UnsignedChar = omega (arith, ints)
keys_span Short = omega (arith, ints)
keys_span UnsignedShort = omega (arith, ints)
keys_span Int = omega (arith, ints)
keys_span UnsignedInt = omega (arith, ints)
