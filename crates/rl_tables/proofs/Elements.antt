-- Elements of valid arrays.
use Rattle.std.proofs.Common.{◌≡◌, ℕ, zero, suc, ◌<◌, ◌≤◌, Bool, true, false, List, [], ◌∷◌, length, Some, None, refl, sym, subst, arith, nat_lt}
use Rattle.std.specs.Prelude.{ℤ, pos, negsuc, ◌≤ℤ◌, ◌<ℤ◌, slice_get, IfSome, IsSomeAnd}
use Rattle.std.proofs.lemmas.Bool.Decides.{nat_tests}
use Rattle.std.proofs.lemmas.Int.{ints}
use Rattle.rl_arrays.specs.declared.arrays.Arrays.{Arrays}
use Rattle.rl_arrays.specs.declared.arrays.ArrayName.{ArrayName}
use Rattle.rl_arrays.specs.Words.{natural, number_at, IfAt, IsAt, IsBetween}
use Rattle.rl_arrays.specs.Sizes.{due, has}
use Rattle.rl_arrays.specs.Valid.{Valid, Right}

-- an element that is due is there, and what is said of it holds
pub right : (a : Arrays) → Valid a → (array : ArrayName) (i : ℕ) → i < due a array → Right a array i
right a valid array i h = valid.each array i (omega arith)

-- an array has as many elements as are due
pub has-due : (a : Arrays) → Valid a → (array : ArrayName) → has a array ≡ due a array
has-due a valid array = go (nat_lt (due a array) (has a array)) refl (nat_lt (has a array) (due a array)) refl
  where
    go : (b : Bool) → nat_lt (due a array) (has a array) ≡ b → (c : Bool) → nat_lt (has a array) (due a array) ≡ c → has a array ≡ due a array
    go true e c f =
        let over : due a array < has a array = grind (arith, nat_tests) in
        let no = (valid.each array (due a array) (omega arith)).due in
        absurd (omega arith)
    go false e true f =
        let under : has a array < due a array = grind (arith, nat_tests) in
        let no = (valid.each array (has a array) (omega arith)).there in
        absurd (omega arith)
    go false e false f = grind (arith, nat_tests)

-- an index within a list has an element
pub element : {X : Type 0} (xs : List X) (i : ℕ) → i < length xs → (x : X) × (slice_get xs i ≡ Some x)
element [] i h = absurd (omega arith)
element (x ∷ xs) zero h = (x, refl)
element (x ∷ xs) (suc i) h = element xs i (omega arith)

-- what is said of an element, if it is there
pub if_at : {X : Type 0} (xs : List X) (i : ℕ) (x : X) (P : X → Type 0) → slice_get xs i ≡ Some x → IfAt xs i P → P x
if_at xs i x P e p = subst (λ o. IfSome o P) e p

pub is_at : {X : Type 0} (xs : List X) (i : ℕ) (x : X) (P : X → Type 0) → slice_get xs i ≡ Some x → P x → IsAt xs i P
is_at xs i x P e p = subst (λ o. IsSomeAnd o P) (sym e) p

pub number-at : (xs : List ℤ) (i : ℕ) (x : ℤ) → slice_get xs i ≡ Some x → number_at xs i ≡ natural x
number-at xs i x e = rw e refl

pub number_none : (xs : List ℤ) (i : ℕ) → slice_get xs i ≡ None → number_at xs i ≡ 0
number_none xs i e = rw e refl

-- a number that is not below 0
pub nonneg : (z : ℤ) → pos 0 ≤ℤ z → z ≡ pos (natural z)
nonneg (pos n) h = refl
nonneg (negsuc n) h = absurd (omega arith)

pub between : (low high : ℕ) (z : ℤ) → IsBetween low high z → (low ≤ natural z) × (natural z ≤ high)
between low high z h =
    let a = h.0 in
    let b = h.1 in
    let e = nonneg z (omega (arith, ints)) in
    (omega (arith, ints), omega (arith, ints))

pub is_between : (low high : ℕ) (z : ℤ) → pos 0 ≤ℤ z → low ≤ natural z → natural z ≤ high → IsBetween low high z
is_between low high z h a b = let e = nonneg z h in (omega (arith, ints), omega (arith, ints))

pub pos-≤ : (m n : ℕ) → m ≤ n → pos m ≤ℤ pos n
pos-≤ m n h = omega (arith, ints)

pub pos-< : (m n : ℕ) → m < n → pos m <ℤ pos n
pos-< m n h = omega (arith, ints)
