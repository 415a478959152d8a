use Rattle.std.proofs.Common.{◌≡◌, ℕ, map, option_map}
use Rattle.std.specs.List.{range_with_len}
use Rattle.rl_certificate.proofs.TableLaws.{blank}
use Rattle.rl_certificate.proofs.table.Table.new.Given as goal

-- so many rows
abbrev pub invariant-loop-state : goal.invariant-loop-state
invariant-loop-state l = map (λ row. map (option_map (λ word. word.items)) row.items) l.rows.items ≡ map (λ (i : ℕ). blank
    (range_with_len 0 l.states)) (range_with_len 0 l._state)
