-- The line of the state Error.
use Rattle.std.proofs.Common.{◌≡◌, ℕ, List, ◌++◌, ap, arith}
use Rattle.std.specs.Prelude.{pos, codes}
use Rattle.std.proofs.lemmas.Fmt.{decimal_digit}
use Rattle.rl_arrays.specs.Section.{number_front, number_line}

pub zero_line : (name : List ℕ) → number_line name (codes "error") (pos 0) ≡ number_front name (codes "error") ++ codes "0;"
zero_line name = ap (λ t. number_front name (codes "error") ++ (t ++ codes ";")) (decimal_digit 0 (omega arith))
