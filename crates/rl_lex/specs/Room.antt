-- Positions that can say where bytes stand.
use Rattle.std.specs.Prelude.{ℕ, ◌+◌, ◌<◌, ◌^◌}
use Rattle.rl_lexical.specs.declared.position.Position.{Position}

-- n bytes may follow: their offsets, lines and columns fit
pub record HasRoom (at : Position) (n : ℕ) : Type 0 where
  pub offsets : at.from + n < 2 ^ 63
  pub lines : at.place.line + n < 2 ^ 32
  pub columns : at.place.col + n < 2 ^ 32
