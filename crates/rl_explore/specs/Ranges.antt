-- Ranges of keys between which a configuration does the same.
use Rattle.std.specs.Prelude.{◌≡◌, ℕ, ℤ, Bool, false, List, None, bit_and}
use Rattle.rl_types.specs.declared.numbers.Letter.{Letter}
use Rattle.rl_types.specs.KeyRange.{Range, in_range}
use Rattle.rl_sets.specs.Sets.{In}
use Rattle.rl_automata.specs.Auto.{Auto}

abbrev pub at : ℤ → ℕ → Letter
at k t = record { key = k; truths = t }

-- the two keys lie in the same of the ranges
abbrev pub InSame : List Range → ℤ → ℤ → Type 0
InSame ranges j k = (r : Range) → In r ranges → in_range j r ≡ in_range k r

-- the key lies in none of the ranges
abbrev pub Outside : List Range → ℤ → Type 0
Outside ranges k = (r : Range) → In r ranges → in_range k r ≡ false

-- What is told of letters is the same at keys that lie in the same ranges, it is `none` outside them, and it depends
-- only on those truths that are asked at the key.
pub record ReadsRanges {X : Type 0} (ranges : List Range) (asked : ℤ → ℕ) (none : X) (f : Letter → X) : Type 0 where
  pub alike : (j k : ℤ) → InSame ranges j k → (t : ℕ) → f (at j t) ≡ f (at k t)
  pub outside : (k : ℤ) → Outside ranges k → (t : ℕ) → f (at k t) ≡ none
  pub told : (k : ℤ) (t : ℕ) → f (at k t) ≡ f (at k (bit_and t (asked k)))

-- the conditions are the same at keys that lie in the same ranges, and outside them nothing is asked
pub record AsksRanges (ranges : List Range) (asked : ℤ → ℕ) : Type 0 where
  pub alike : (j k : ℤ) → InSame ranges j k → asked j ≡ asked k
  pub outside : (k : ℤ) → Outside ranges k → asked k ≡ 0

-- the configuration's steps, cycles and conditions are told by these ranges
pub record AreRanges {S : Type 0} (A : Auto S) (jams : S → Letter → Bool) (c : S) (ranges : List Range) : Type 0 where
  pub steps : ReadsRanges ranges (A.asked c) None (A.step c)
  pub cycles : ReadsRanges ranges (A.asked c) false (jams c)
  pub asks : AsksRanges ranges (A.asked c)
