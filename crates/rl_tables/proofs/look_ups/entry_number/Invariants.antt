use Rattle.std.proofs.Common.{◌≡◌, ◌+◌, ◌*◌, ◌^◌, ◌<◌, ◌≤◌, length, not, bit_and}
use Rattle.std.specs.Prelude.{◌==◌}
use Rattle.std.specs.List.{filter}
use Rattle.rl_arrays.specs.TableMachine.{entry_number}
use Rattle.rl_tables.proofs.look_ups.entry_number.Given as goal

abbrev pub invariant-loop-condition : goal.invariant-loop-condition
invariant-loop-condition l = record {
  same : entry_number (filter (λ bit. not (bit_and l.asks bit == 0)) l.conditions) l.hold ≡ l.number + l.weight * entry_number (filter (λ bit. not (bit_and l.asks bit == 0)) l.rest) l.hold;
  below : l.number < l.weight;
  small : l.weight * 2 ^ length l.rest ≤ 2 ^ 8;
}

abbrev pub decreases-loop-condition : goal.decreases-loop-condition
decreases-loop-condition l = length l.rest
