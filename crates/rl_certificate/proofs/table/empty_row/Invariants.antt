use Rattle.std.proofs.Common.{◌≡◌, ℕ, None, map, option_map}
use Rattle.std.specs.List.{range_with_len}
use Rattle.rl_certificate.proofs.table.empty_row.Given as goal

-- so many places
abbrev pub invariant-loop-place : goal.invariant-loop-place
invariant-loop-place l = map (option_map (λ word. word.items)) l.row.items ≡ map (λ (i : ℕ). None) (range_with_len 0 l._place)
