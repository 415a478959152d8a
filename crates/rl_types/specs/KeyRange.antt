-- Ranges of keys.
use Rattle.std.specs.Prelude.{Bool, ◌&&◌, ℤ, int_le, refl}
use Rattle.std.specs.Coded.{Coded, code_by, coded_ℤ, coded×}

-- the keys from the one to the other, both included
pub record Range : Type 0 where
  pub lo : ℤ
  pub hi : ℤ

abbrev pub coded_range : Coded Range
coded_range = code_by (ℤ × ℤ) (coded× coded_ℤ coded_ℤ) (λ r. (r.lo, r.hi)) (λ p. record { lo = p.0; hi = p.1 }) (λ _. refl)

-- the range holds the key
abbrev pub in_range : ℤ → Range → Bool
in_range key r = int_le r.lo key && int_le key r.hi
