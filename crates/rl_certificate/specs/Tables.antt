-- The words that were found for pairs of states.
use Rattle.std.specs.Prelude.{◌≡◌, ℕ, ◌+◌, ◌<◌, ◌≤◌, ◌⊎◌, Bool, cond, nat_lt, List, [], ◌∷◌, ◌++◌, map, length, Option, Some, None, slice_get, slice_set, unwrap_or}
use Rattle.std.specs.Option.{option_map}
use Rattle.rl_types.specs.declared.numbers.Letter.{Letter}
use Rattle.rl_sets.specs.Sets.{In}
use Rattle.rl_minimal.specs.Minimal.{Minimal}
use Rattle.rl_certificate.specs.declared.order.Pair.{Pair}
use Rattle.rl_certificate.specs.declared.table.Table.{Table}
use Rattle.rl_certificate.specs.Views.{ShowSame}
use Rattle.rl_certificate.specs.Firsts.{TellsApart, IsFirstWord}
use Rattle.rl_certificate.specs.Rounds.{IsReal, IsTold, IsNoStep, IsLed}

-- for each state a row with a place for each state
abbrev pub Words : Type 0
Words = List (List (Option (List Letter)))

abbrev pub rows_of : Table → Words
rows_of t = map (λ row. map (option_map (λ word. word.items)) row.items) t.rows.items

abbrev pub row_in : Words → ℕ → List (Option (List Letter))
row_in words i = unwrap_or (slice_get words i) []

abbrev pub word_in : Words → ℕ → ℕ → Option (List Letter)
word_in words i j = unwrap_or (slice_get (row_in words i) j) None

-- the word of two states, which stands in the lower one's row
abbrev pub told_in : Words → ℕ → ℕ → Option (List Letter)
told_in words i j = cond (nat_lt i j) (word_in words i j) (word_in words j i)

-- the word that was found for the two states
abbrev pub words_of : Table → ℕ → ℕ → Option (List Letter)
words_of t i j = told_in (rows_of t) i j

abbrev pub with_word : Words → ℕ → ℕ → List Letter → Words
with_word words i j w = slice_set words i (slice_set (row_in words i) j (Some w))

-- each of so many rows has so many places
pub record IsSquare (n : ℕ) (words : Words) : Type 0 where
  pub count : length words ≡ n
  pub each : (i : ℕ) → i < n → length (row_in words i) ≡ n

-- two states but Error, in order
pub record IsPair (m : Minimal) (p : Pair) : Type 0 where
  pub alive : 0 < p.low
  pub ordered : p.low < p.high
  pub there : p.high < length m.states

-- these are the pairs without words
pub record AreOpen (m : Minimal) (words : Words) (pairs : List Pair) : Type 0 where
  pub each : (p : Pair) → In p pairs → IsPair m p × (word_in words p.low p.high ≡ None)
  pub all : (p : Pair) → IsPair m p → word_in words p.low p.high ≡ None → In p pairs

-- the pair comes before these two states, by the lower state and then the higher one
abbrev pub ComesBefore : Pair → ℕ → ℕ → Type 0
ComesBefore p low high = (p.low < low) ⊎ ((p.low ≡ low) × (p.high < high))

-- a pair has been looked at in a round: it has its word, or it has none and was put behind the others
abbrev pub IsTurned : Minimal → List Letter → ℕ → Words → Words → Pair → List Pair → List Pair → Type 0
IsTurned m letters n old new p before after =
    ((w : List Letter) × IsLed m letters n (told_in old) p.low p.high w × (new ≡ with_word old p.low p.high w) × (after ≡ before))
    ⊎ (IsNoStep m letters n (told_in old) p.low p.high × (new ≡ old) × (after ≡ before ++ p ∷ []))

module _ (m : Minimal) (homes : Bool) where
  -- all words of at most n letters have been looked at
  pub record AreKnown (n : ℕ) (words : Words) : Type 0 where
    pub each : (p : Pair) → IsPair m p → IsTold m homes n p.low p.high (word_in words p.low p.high)
    pub own : (i : ℕ) → IsReal m i → word_in words i i ≡ None

  -- the first word, of one letter more than n, came to a place that had none
  pub record IsNew (n : ℕ) (old new : Words) (i j : ℕ) : Type 0 where
    pub word : List Letter
    pub none : word_in old i j ≡ None
    pub some : word_in new i j ≡ Some word
    pub count : length word ≡ n + 1
    pub first : IsFirstWord m homes i j word

  -- a round has come so far: it has gone over some pairs, of which these still have no word
  pub record IsRounding (n : ℕ) (old new : Words) (over still : List Pair) : Type 0 where
    pub square : IsSquare (length m.states) new
    pub words : (i j : ℕ) → (word_in new i j ≡ word_in old i j) ⊎ IsNew n old new i j
    pub parted : (p : Pair) → In p over → ((w : List Letter) × (word_in new p.low p.high ≡ Some w)) ⊎ In p still
    pub still_is : (p : Pair) → In p still → In p over × ((w : List Letter) → length w ≤ n + 1 → TellsApart m homes w p.low p.high → ⊥)
    pub few : length still ≤ length over
    pub kept : length still ≡ length over → (i j : ℕ) → word_in new i j ≡ word_in old i j

  -- a round is over
  pub record IsRound (n : ℕ) (old new : Words) (open_before open_after : List Pair) : Type 0 where
    pub square : IsSquare (length m.states) new
    pub known : AreKnown (n + 1) new
    pub unknown : AreOpen m new open_after
    pub few : length open_after ≤ length open_before
    pub kept : length open_after ≡ length open_before → (i j : ℕ) → word_in new i j ≡ word_in old i j

  -- a pair has been looked at: it has the empty word, or it shows the same and has been put behind the others
  abbrev pub IsTried : Words → Words → Pair → List Pair → List Pair → Type 0
  IsTried old new p before after = ((ShowSame m homes p.low p.high) × (new ≡ old) × (after ≡ before ++ p ∷ []))
      ⊎ ((ShowSame m homes p.low p.high → ⊥) × (new ≡ with_word old p.low p.high []) × (after ≡ before))

  -- the pairs before this one have been looked at, and no others
  pub record IsBegun (words : Words) (still : List Pair) (low high : ℕ) : Type 0 where
    pub square : IsSquare (length m.states) words
    pub each : (p : Pair) → IsPair m p → ComesBefore p low high → IsTold m homes 0 p.low p.high (word_in words p.low p.high)
    pub own : (i : ℕ) → IsReal m i → word_in words i i ≡ None
    pub later : (p : Pair) → IsPair m p → (ComesBefore p low high → ⊥) → word_in words p.low p.high ≡ None
    pub still_is : (p : Pair) → In p still → IsPair m p × (word_in words p.low p.high ≡ None) × ComesBefore p low high
    pub all : (p : Pair) → IsPair m p → ComesBefore p low high → word_in words p.low p.high ≡ None → In p still
