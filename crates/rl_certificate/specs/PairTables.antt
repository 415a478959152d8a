-- The tables of pairs of states.
use Rattle.std.specs.Prelude.{true, false}
use Rattle.rl_minimal.specs.Minimal.{Minimal}
use Rattle.rl_certificate.specs.declared.separating.Tables.{Tables}
use Rattle.rl_certificate.specs.Founds.{AreFound}
use Rattle.rl_certificate.specs.Tables.{words_of}

-- the first words for pairs where homes count, and for those where they do not
pub record AreTables (m : Minimal) (t : Tables) : Type 0 where
  pub with_homes : AreFound m true (words_of t.with_homes)
  pub without_homes : AreFound m false (words_of t.without_homes)
