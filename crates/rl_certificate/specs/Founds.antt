-- The words that were found for pairs of states.
use Rattle.std.specs.Prelude.{◌≡◌, ℕ, ◌<◌, Bool, List, map, ◌++◌, Option, Some, None, length, All}
use Rattle.rl_types.specs.declared.numbers.Letter.{Letter}
use Rattle.rl_minimal.specs.Minimal.{Minimal}
use Rattle.rl_certificate.specs.declared.certificate.Apart.{Apart}
use Rattle.rl_certificate.specs.Certificates.{pairs_of, IsApart}
use Rattle.rl_certificate.specs.Orders.{pairs_from}
use Rattle.rl_certificate.specs.Firsts.{TellsApart, IsFirstWord, IsFirstApart}

module _ (m : Minimal) (homes : Bool) where
  -- the first word that tells the two states apart, or none where no word does
  abbrev pub IsFound : ℕ → ℕ → Option (List Letter) → Type 0
  IsFound i j (Some w) = IsFirstWord m homes i j w
  IsFound i j None = (w : List Letter) → TellsApart m homes w i j → ⊥

  -- each pair of states but Error has its word
  pub record AreFound (told : ℕ → ℕ → Option (List Letter)) : Type 0 where
    pub each : (i j : ℕ) → 0 < i → i < j → j < length m.states → IsFound i j (told i j)

-- the two states of a pair
abbrev pub pair_of : Apart → ℕ × ℕ
pair_of p = (p.low, p.high)

-- the pairs before this one stand there, with their first words
pub record ArePairs (m : Minimal) (apart : List Apart) (low high : ℕ) : Type 0 where
  pub ordered : low < high
  pub pairs : map pair_of apart ++ pairs_from (length m.states) low high ≡ pairs_of (length m.states)
  pub right : All (IsApart m) apart
  pub first : All (IsFirstApart m) apart
