-- Cutting ranges at the first key of each and the first key behind it makes pieces.
use Rattle.std.proofs.Common.{◌≡◌, ℕ, zero, suc, ◌+◌, ◌-◌, ◌<◌, ◌≤◌, ℤ, ◌+ℤ◌, ◌≤ℤ◌, ◌<ℤ◌, pos, negsuc, Bool, true, false, cond, ◌&&◌, List, [], ◌∷◌, ◌++◌, append_assoc, ◌⊎◌, length, drop, get_or, drop-cons, refl, ap, sym, ◌∙◌, subst, inl, inr, arith, int_cmp, int_lt, int_le, true≢false}
use Rattle.std.specs.declared.cmp.Ordering.TheVariants.{Less, Equal, Greater}
use Rattle.std.specs.List.{All}
use Rattle.std.proofs.lemmas.Int.{ints}
use Rattle.std.proofs.Math.ListN.{drop_of_length-le}
use native.Mathlib.Decide.{dec_lt}
use Rattle.rl_types.specs.KeyRange.{Range, in_range}
use Rattle.rl_sets.specs.Sets.{In, set_of, Ascends}
use Rattle.rl_sets.proofs.SetLaws.{In-set_of, Ascends-set_of, Below-In}
use Rattle.rl_sets.proofs.OrderLaws.{int_order}
use Rattle.rl_fsm.specs.Pieces.{AreApart, ArePieces, cuts_of, between, pieces_of}

-- ---- signed numbers

pub less_is : (x y : ℤ) → int_cmp x y ≡ Less → x <ℤ y
less_is x y e =
    (elim (int_lt x y) as (λ b. int_lt x y ≡ b → cond b Less (cond (int_lt y x) Greater Equal) ≡ Less → x <ℤ y) [
      | true ↦ λ t _. below_is x y t
      | false ↦ λ _ f. elim (int_lt y x) as (λ b. cond b Greater Equal ≡ Less → x <ℤ y) [ true ↦ λ g. cc | false ↦ λ g. cc ] f
    ]) refl e
  where
    below_is : (x y : ℤ) → int_lt x y ≡ true → x <ℤ y
    below_is x y t = grind (arith, ints)

pub before_or_not : (k p : ℤ) → (k <ℤ p) ⊎ (p ≤ℤ k)
before_or_not k p =
    (elim (int_lt k p) as (λ b. int_lt k p ≡ b → (k <ℤ p) ⊎ (p ≤ℤ k)) [
      | true ↦ λ t. inl (yes_is k p t)
      | false ↦ λ f. inr (no_is k p f)
    ]) refl
  where
    yes_is : (k p : ℤ) → int_lt k p ≡ true → k <ℤ p
    yes_is k p t = grind (arith, ints)

    no_is : (k p : ℤ) → int_lt k p ≡ false → p ≤ℤ k
    no_is k p f = grind (arith, ints)

pub le_from : (x k : ℤ) → int_le x k ≡ true → x ≤ℤ k
le_from x k h = grind (arith, ints)

pub le_to : (x k : ℤ) → x ≤ℤ k → int_le x k ≡ true
le_to x k h = grind (arith, ints)

pub not_le : (x k : ℤ) → k <ℤ x → int_le x k ≡ false
not_le x k h = grind (arith, ints)

pub lt_to : (x k : ℤ) → x <ℤ k → int_lt x k ≡ true
lt_to x k h = grind (arith, ints)

pub lt_from : (x k : ℤ) → int_lt x k ≡ true → x <ℤ k
lt_from x k h = grind (arith, ints)

le_le : (x y z : ℤ) → x ≤ℤ y → y ≤ℤ z → x ≤ℤ z
le_le x y z a b = omega (arith, ints)

lt_le : (x y : ℤ) → x <ℤ y → x ≤ℤ y
lt_le x y a = omega (arith, ints)

le_refl : (x : ℤ) → x ≤ℤ x
le_refl x = omega (arith, ints)

lt_le_lt : (x y z : ℤ) → x <ℤ y → y ≤ℤ z → x <ℤ z
lt_le_lt x y z a b = omega (arith, ints)

le_lt_lt : (x y z : ℤ) → x ≤ℤ y → y <ℤ z → x <ℤ z
le_lt_lt x y z a b = omega (arith, ints)

never : {P : Type 0} (x y : ℤ) → x <ℤ y → y ≤ℤ x → P
never x y a b = absurd (omega (arith, ints))

before_is : (k q : ℤ) → k ≤ℤ (q +ℤ negsuc 0) → k <ℤ q
before_is k q h = omega (arith, ints)

is_before : (k q : ℤ) → k <ℤ q → k ≤ℤ (q +ℤ negsuc 0)
is_before k q h = omega (arith, ints)

behind_is : (k h : ℤ) → k ≤ℤ h → k <ℤ (h +ℤ pos 1)
behind_is k h l = omega (arith, ints)

is_behind : (k h : ℤ) → k <ℤ (h +ℤ pos 1) → k ≤ℤ h
is_behind k h l = omega (arith, ints)

behind_le : (k h : ℤ) → (h +ℤ pos 1) ≤ℤ k → h <ℤ k
behind_le k h l = omega (arith, ints)

-- ---- keys in ranges

both_true : (a b : Bool) → (a && b) ≡ true → (a ≡ true) × (b ≡ true)
both_true true b e = (refl, e)
both_true false b e = absurd (true≢false (sym e))

and_true : (a b : Bool) → a ≡ true → b ≡ true → (a && b) ≡ true
and_true a b e f = λ i. (ap (λ w. w && b) e ∙ f) i

pub range_low : (k : ℤ) (r : Range) → in_range k r ≡ true → r.lo ≤ℤ k
range_low k r h = le_from r.lo k (both_true (int_le r.lo k) (int_le k r.hi) h).0

pub range_high : (k : ℤ) (r : Range) → in_range k r ≡ true → k ≤ℤ r.hi
range_high k r h = le_from k r.hi (both_true (int_le r.lo k) (int_le k r.hi) h).1

pub range_is : (k : ℤ) (r : Range) → r.lo ≤ℤ k → k ≤ℤ r.hi → in_range k r ≡ true
range_is k r a b = and_true (int_le r.lo k) (int_le k r.hi) (le_to r.lo k a) (le_to k r.hi b)

pub below_range : (k : ℤ) (r : Range) → k <ℤ r.lo → in_range k r ≡ false
below_range k r h = ap (λ b. b && int_le k r.hi) (not_le r.lo k h)

pub above_range : (k : ℤ) (r : Range) → r.hi <ℤ k → in_range k r ≡ false
above_range k r h = ap (λ b. int_le r.lo k && b) (not_le k r.hi h) ∙ and_false (int_le r.lo k)
  where
    and_false : (b : Bool) → (b && false) ≡ false
    and_false true = refl
    and_false false = refl

-- ---- from each cut to the next

low_cut : (q : ℤ) (v : List ℤ) (x : ℤ) → Ascends int_cmp (q ∷ v) → In x (q ∷ v) → q ≤ℤ x
low_cut q v x a (inl e) = subst (λ w. q ≤ℤ w) e (le_refl q)
low_cut q v x a (inr i) = lt_le q x (less_is q x (Below-In int_order q x v a.0 i))

between_low : (v : List ℤ) (q : ℤ) (r : Range) → Ascends int_cmp (q ∷ v) → In r (between (q ∷ v)) → q ≤ℤ r.lo
between_low [] q r a i = absurd i
between_low (p ∷ v) q r a (inl e) = subst (λ w. q ≤ℤ w.lo) e (le_refl q)
between_low (p ∷ v) q r a (inr i) = le_le q p r.lo (lt_le q p (less_is q p a.0.0)) (between_low v p r a.1 i)

between_apart : (v : List ℤ) → Ascends int_cmp v → AreApart (between v)
between_apart [] a = tt
between_apart (p ∷ []) a = tt
between_apart (p ∷ q ∷ v) a = (
  is_before p q (less_is p q a.0.0),
  (λ r i. le_lt (q +ℤ negsuc 0) q r.lo (last q) (between_low v q r a.1 i)),
  between_apart (q ∷ v) a.1,
)
  where
    last : (q : ℤ) → (q +ℤ negsuc 0) <ℤ q
    last q = omega (arith, ints)

    le_lt : (x y z : ℤ) → x <ℤ y → y ≤ℤ z → x <ℤ z
    le_lt x y z a b = omega (arith, ints)

-- no cut lies behind the first key of a piece, up to a key of it
between_cut : (v : List ℤ) (r : Range) (k x : ℤ) → Ascends int_cmp v → In r (between v) → in_range k r ≡ true → In x v → (x ≤ℤ r.lo) ⊎ (k <ℤ x)
between_cut [] r k x a i h j = absurd i
between_cut (p ∷ []) r k x a i h j = absurd i
between_cut (p ∷ q ∷ v) r k x a (inl e) h (inl f) = inl (subst (λ w. x ≤ℤ w.lo) e (subst (λ w. w ≤ℤ p) f (le_refl p)))
between_cut (p ∷ q ∷ v) r k x a (inl e) h (inr j) =
    inr (lt_le_lt k q x (before_is k q (subst (λ w. k ≤ℤ w.hi) (sym e) (range_high k r h))) (low_cut q v x a.1 j))
between_cut (p ∷ q ∷ v) r k x a (inr i) h (inl f) =
    inl (le_le x q r.lo (subst (λ w. w ≤ℤ q) f (lt_le p q (less_is p q a.0.0))) (between_low v q r a.1 i))
between_cut (p ∷ q ∷ v) r k x a (inr i) h (inr j) = between_cut (q ∷ v) r k x a.1 i h j

between_covers : (v : List ℤ) (k x y : ℤ) → Ascends int_cmp v → In x v → In y v → x ≤ℤ k → k <ℤ y → (p : Range) × In p (between v) × (in_range k p ≡ true)
between_covers [] k x y a i j l h = absurd i
between_covers (p ∷ []) k x y a i j l h = never k y h (le_le y x k (subst (λ w. y ≤ℤ w) (one x i) (subst (λ w. w ≤ℤ p) (one y j) (le_refl p))) l)
  where
    one : (z : ℤ) → In z (p ∷ []) → p ≡ z
    one z (inl e) = e
    one z (inr n) = absurd n
between_covers (p ∷ q ∷ v) k x y a i j l h =
    let side : (k <ℤ q) ⊎ (q ≤ℤ k) = before_or_not k q in
    elim side [
      | inl b ↦ (record { lo = p; hi = q +ℤ negsuc 0 }, inl refl, range_is k (record { lo = p; hi = q +ℤ negsuc 0 }) (le_le p x k (low_cut p (q ∷ v) x a i) l) (is_before k q b))
      | inr b ↦ let rest = between_covers (q ∷ v) k q y a.1 (inl refl) (later j b) b h in (rest.0, inr rest.1, rest.2)
    ]
  where
    later : In y (p ∷ q ∷ v) → q ≤ℤ k → In y (q ∷ v)
    later (inl e) b = never k y h (le_le y q k (subst (λ w. w ≤ℤ q) e (lt_le p q (less_is p q a.0.0))) b)
    later (inr m) b = m

-- ---- the cuts of ranges

low_is_cut : (r : Range) (rs : List Range) → In r rs → In r.lo (cuts_of rs)
low_is_cut r [] i = absurd i
low_is_cut r (s ∷ rs) (inl e) = inl (ap (λ w. w.lo) e)
low_is_cut r (s ∷ rs) (inr i) = inr (inr (low_is_cut r rs i))

end_is_cut : (r : Range) (rs : List Range) → In r rs → In (r.hi +ℤ pos 1) (cuts_of rs)
end_is_cut r [] i = absurd i
end_is_cut r (s ∷ rs) (inl e) = inr (inl (ap (λ w. w.hi +ℤ pos 1) e))
end_is_cut r (s ∷ rs) (inr i) = inr (inr (end_is_cut r rs i))

le_alike : (x j k : ℤ) → j ≤ℤ k → (x ≤ℤ j) ⊎ (k <ℤ x) → int_le x k ≡ int_le x j
le_alike x j k l (inl h) = le_to x k (le_le x j k h l) ∙ sym (le_to x j h)
le_alike x j k l (inr h) = not_le x k h ∙ sym (not_le x j (le_lt_lt j k x l h))

end_alike : (x j k : ℤ) → j ≤ℤ k → ((x +ℤ pos 1) ≤ℤ j) ⊎ (k <ℤ (x +ℤ pos 1)) → int_le k x ≡ int_le j x
end_alike x j k l (inl h) = not_le k x (lt_le_lt x j k (behind_le j x h) l) ∙ sym (not_le j x (behind_le j x h))
end_alike x j k l (inr h) = le_to k x (is_behind k x h) ∙ sym (le_to j x (le_le j k x l (is_behind k x h)))

pub pieces_are : (ranges : List Range) → ArePieces ranges (pieces_of ranges)
pieces_are ranges =
    let v = set_of int_cmp (cuts_of ranges) in
    let a : Ascends int_cmp v = Ascends-set_of int_order (cuts_of ranges) in
    record {
      apart = between_apart v a;
      whole = λ p r i j k h.
          let l : p.lo ≤ℤ k = range_low k p h in
          λ x. le_alike r.lo p.lo k l (between_cut v p k r.lo a i h (In-set_of int_order r.lo (cuts_of ranges) (low_is_cut r ranges j))) x
          && end_alike r.hi p.lo k l (between_cut v p k (r.hi +ℤ pos 1) a i h (In-set_of int_order (r.hi +ℤ pos 1) (cuts_of ranges) (end_is_cut r ranges j))) x;
      covered = λ k r j h. between_covers v k r.lo (r.hi +ℤ pos 1) a
          (In-set_of int_order r.lo (cuts_of ranges) (low_is_cut r ranges j)) (In-set_of int_order (r.hi +ℤ pos 1) (cuts_of ranges) (end_is_cut r ranges j))
          (range_low k r h) (behind_is k r.hi (range_high k r h));
    }

-- ---- the loop over neighbouring cuts

pub between_more : (v : List ℤ) (i : ℕ) (p q d : ℤ) → 0 < i → i < length v → p ≡ get_or v (i - 1) d → q ≡ get_or v i d
    → between (drop (i - 1) v) ≡ record { lo = p; hi = q +ℤ negsuc 0 } ∷ between (drop (i + 1 - 1) v)
between_more v i p q d z h e f =
    let i_is : suc (i - 1) ≡ i = omega arith in
    let next : suc (i - 1) ≡ i + 1 - 1 = omega arith in
    let bound : suc (i - 1) < length v = omega arith in
    at v (i - 1) bound ∙ (λ x. record { lo = sym e x; hi = (ap (λ w. get_or v w d) i_is ∙ sym f) x +ℤ negsuc 0 } ∷ between (drop (next x) v))
  where
    at : (v : List ℤ) (k : ℕ) → suc k < length v → between (drop k v) ≡ record { lo = get_or v k d; hi = get_or v (suc k) d +ℤ negsuc 0 } ∷ between (drop (suc k) v)
    at v k h =
        let two : drop (suc k) v ≡ get_or v (suc k) d ∷ drop (suc (suc k)) v = drop-cons v (suc k) d h in
        let one : drop k v ≡ get_or v k d ∷ get_or v (suc k) d ∷ drop (suc (suc k)) v = drop-cons v k d (omega arith) ∙ ap (λ w. get_or v k d ∷ w) two in
        ap between one ∙ ap (λ w. record { lo = get_or v k d; hi = get_or v (suc k) d +ℤ negsuc 0 } ∷ between w) (sym two)

pub between_done : (v : List ℤ) (i : ℕ) → 0 < i → length v ≤ i → between (drop (i - 1) v) ≡ []
between_done v i z h = end v (i - 1) (pos 0) (omega arith)
  where
    end : (v : List ℤ) (k : ℕ) (d : ℤ) → length v ≤ suc k → between (drop k v) ≡ []
    end v k d h =
        elim (dec_lt k (length v)) [
          | yes l ↦ ap between (drop-cons v k d l ∙ ap (λ w. get_or v k d ∷ w) (drop_of_length-le v h))
          | no n ↦ ap between (drop_of_length-le v (omega arith))
        ]

-- the cut before another one is below it
pub cut_before : (v : List ℤ) (i : ℕ) (d : ℤ) → Ascends int_cmp v → 0 < i → i < length v → get_or v (i - 1) d <ℤ get_or v i d
cut_before v i d a z h = let i_is : suc (i - 1) ≡ i = omega arith in let b : suc (i - 1) < length v = omega arith in
    subst (λ w. get_or v (i - 1) d <ℤ get_or v w d) i_is (at v (i - 1) a b)
  where
    at : (v : List ℤ) (k : ℕ) → Ascends int_cmp v → suc k < length v → get_or v k d <ℤ get_or v (suc k) d
    at [] k a h = absurd (omega arith)
    at (p ∷ []) k a h = absurd (omega arith)
    at (p ∷ q ∷ v) zero a h = less_is p q a.0.0
    at (p ∷ q ∷ v) (suc k) a h = at (q ∷ v) k a.1 (omega arith)

pub All-In : {X : Type 0} (P : X → Type 0) (xs : List X) (x : X) → All P xs → In x xs → P x
All-In P [] x a i = absurd i
All-In P (y ∷ xs) x a (inl e) = subst P e (a zero y (omega arith))
All-In P (y ∷ xs) x a (inr i) = All-In P xs x (λ k d h. a (suc k) d (omega arith)) i

pub All-from_In : {X : Type 0} (P : X → Type 0) (xs : List X) → ((x : X) → In x xs → P x) → All P xs
All-from_In P [] f k d h = absurd (omega arith)
All-from_In P (y ∷ xs) f zero d h = f y (inl refl)
All-from_In P (y ∷ xs) f (suc k) d h = All-from_In P xs (λ x i. f x (inr i)) k d (omega arith)

-- ---- the loop over the ranges

pub cuts_more : (rs : List Range) (i : ℕ) (r : Range) (old mid new : List ℤ) (x y : ℤ) → i < length rs → r ≡ get_or rs i r → cuts_of rs ≡ old ++ cuts_of (drop i rs)
    → mid ≡ old ++ x ∷ [] → new ≡ mid ++ y ∷ [] → x ≡ r.lo → y ≡ r.hi +ℤ pos 1 → cuts_of rs ≡ new ++ cuts_of (drop (i + 1) rs)
cuts_more rs i r old mid new x y h j e m n p q =
    e ∙ ap (λ w. old ++ cuts_of w) (drop-cons rs i r h) ∙ (λ k. old ++ (subst (λ w. w.lo ≡ x) j (sym p) k ∷ subst (λ w. w.hi +ℤ pos 1 ≡ y) j (sym q) k ∷ cuts_of (drop (next i k) rs)))
    ∙ sym (append_assoc old (x ∷ []) (y ∷ cuts_of (drop (i + 1) rs))) ∙ ap (λ w. w ++ (y ∷ cuts_of (drop (i + 1) rs))) (sym m)
    ∙ sym (append_assoc mid (y ∷ []) (cuts_of (drop (i + 1) rs))) ∙ ap (λ w. w ++ cuts_of (drop (i + 1) rs)) (sym n)
  where
    next : (i : ℕ) → suc i ≡ i + 1
    next i = omega arith
