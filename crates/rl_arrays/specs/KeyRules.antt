-- What is said of an element of `trans_keys`. An element may be a key of any state whose lengths say so.
use Rattle.std.specs.Prelude.{◌≡◌, ℕ, zero, suc, ◌+◌, ◌*◌, ◌<◌, IsTrue, ℤ, pos, negsuc, ◌+ℤ◌, ◌<ℤ◌, ◌≤ℤ◌, List, [], ◌∷◌, Option, None, IfSome, IsSomeAnd, slice_get}
use Rattle.rl_types.specs.Alphabet.{has_key}
use Rattle.rl_types.specs.declared.alphabet.Alphabet.{Alphabet}
use Rattle.rl_types.specs.declared.alphabet.Alphabet.TheVariants.{Char, UnsignedChar, Short, UnsignedShort, Int, UnsignedInt}
use Rattle.rl_arrays.specs.declared.arrays.Arrays.{Arrays}
use Rattle.rl_arrays.specs.Words.{IfAt, sum_before}
use Rattle.rl_arrays.specs.Sizes.{states, keys_of, keys_end, IsClosing}

-- the alphabet with this number
abbrev pub alphabet_of : ℤ → Option Alphabet
alphabet_of (negsuc n) = None
alphabet_of (pos n) = slice_get (Char ∷ UnsignedChar ∷ Short ∷ UnsignedShort ∷ Int ∷ UnsignedInt ∷ []) n

-- the place is that of single key p of the state; a state's keys begin behind those of the states before it
pub record IsSingle (a : Arrays) (s p place : ℕ) : Type 0 where
  pub state : s < states a
  pub place_is : IsSomeAnd (sum_before (keys_of a) s) (λ first. pos place ≡ first +ℤ pos p)
  pub within : IsSomeAnd (slice_get a.single_lengths s) (λ singles. pos p <ℤ singles)

-- the place is that of end p of a range of the state: the lows have even numbers, the highs odd ones; they stand behind its single keys
pub record IsEnd (a : Arrays) (s p place : ℕ) : Type 0 where
  pub state : s < states a
  pub place_is : IsSomeAnd (sum_before (keys_of a) s) (λ first. IsSomeAnd (slice_get a.single_lengths s) (λ singles. pos place ≡ (first +ℤ singles) +ℤ pos p))
  pub within : IsSomeAnd (slice_get a.range_lengths s) (λ ranges. pos p <ℤ (ranges +ℤ ranges))

-- the key is one of the alphabet
abbrev pub IsKey : Arrays → ℤ → Type 0
IsKey a key = IfSome (alphabet_of a.alphabet) (λ alphabet. IsTrue (has_key alphabet key))

-- the key is above the one before it, if that is there
abbrev pub IsAbove : List ℤ → ℕ → ℤ → Type 0
IsAbove keys zero key = Unit {0}
IsAbove keys (suc place) key = IfAt keys place (λ before. before <ℤ key)

-- the key at a place is not between a low and the high behind it
abbrev pub IsOutside : List ℤ → ℕ → ℤ → ℕ → Type 0
IsOutside keys place low single = IfAt keys (place + 1) (λ high. IfAt keys single (λ key. low ≤ℤ key → key ≤ℤ high → ⊥))

pub record KeySays (a : Arrays) (place : ℕ) (key : ℤ) : Type 0 where
  pub closing : IsClosing (keys_end a) place → key ≡ pos 0
  pub single : (s p : ℕ) → IsSingle a s p place → IsKey a key
  pub ascends : (s p : ℕ) → IsSingle a s (p + 1) place → IsAbove a.trans_keys place key
  pub end : (s p : ℕ) → IsEnd a s p place → IsKey a key
  pub disjoint : (s p : ℕ) → IsEnd a s (p + 1) place → IsAbove a.trans_keys place key
  pub apart : (s q r other : ℕ) → IsEnd a s (2 * q) place → IsSingle a s r other → IsOutside a.trans_keys place key other
