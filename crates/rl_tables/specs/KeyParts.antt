-- What the states say of a place of `trans_keys`, state by state.
use Rattle.std.specs.Prelude.{◌≡◌, ℕ, ◌+◌, ◌*◌, ◌<◌, min, ℤ, pos, Option, Some, None}
use Rattle.rl_arrays.specs.declared.arrays.Arrays.{Arrays}
use Rattle.rl_arrays.specs.declared.arrays.ArrayName.TheVariants as the
use Rattle.rl_arrays.specs.Words.{IfAt}
use Rattle.rl_arrays.specs.Sizes.{has, due, keys_end, IsClosing}
use Rattle.rl_arrays.specs.KeyRules.{IsSingle, IsEnd, IsKey, IsAbove, IsOutside}

-- the lesser of two indexes, where there is one
abbrev pub lesser : Option ℕ → Option ℕ → Option ℕ
lesser None j = j
lesser (Some i) None = Some i
lesser (Some i) (Some j) = Some (min i j)

-- what a state says of a place as one of its single keys
pub record SingleSays (a : Arrays) (s place : ℕ) (key : ℤ) : Type 0 where
  pub single : (p : ℕ) → IsSingle a s p place → IsKey a key
  pub ascends : (p : ℕ) → IsSingle a s (p + 1) place → IsAbove a.trans_keys place key

-- what a state says of a place as an end of one of its ranges
pub record EndSays (a : Arrays) (s place : ℕ) (key : ℤ) : Type 0 where
  pub end : (p : ℕ) → IsEnd a s p place → IsKey a key
  pub disjoint : (p : ℕ) → IsEnd a s (p + 1) place → IsAbove a.trans_keys place key
  pub apart : (q r other : ℕ) → IsEnd a s (2 * q) place → IsSingle a s r other → IsOutside a.trans_keys place key other

pub record StateSays (a : Arrays) (s place : ℕ) (key : ℤ) : Type 0 where
  pub singles : SingleSays a s place key
  pub ends : EndSays a s place key

-- what the first so many states say
pub record StatesSay (a : Arrays) (n place : ℕ) (key : ℤ) : Type 0 where
  pub each : (s : ℕ) → s < n → StateSays a s place key

-- the place is there and due, and 0 where it is the closing one
pub record IsClosed (a : Arrays) (place : ℕ) : Type 0 where
  pub there : place < has a the.TransKeys
  pub due : place < due a the.TransKeys
  pub closing : IfAt a.trans_keys place (λ key. IsClosing (keys_end a) place → key ≡ pos 0)
