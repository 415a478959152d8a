-- The pairs of states from one on.
use Rattle.std.specs.Prelude.{ℕ, suc, ◌-◌, List, map, ◌++◌}
use Rattle.std.specs.List.{flat_map, range_with_len}
use Rattle.rl_certificate.specs.Certificates.{pairs_with}

-- the pairs of n states from this one on: those of the same low state, and those of all higher ones
abbrev pub pairs_from : ℕ → ℕ → ℕ → List (ℕ × ℕ)
pairs_from n low high = map (λ h. (low, h)) (range_with_len high (n - high)) ++ flat_map (pairs_with n) (range_with_len (suc low) (n - suc low))
