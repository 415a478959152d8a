use Rattle.std.proofs.Common.{◌≡◌, ◌+◌, ◌≤◌, length}
use Rattle.std.specs.Option.{option_map}
use Rattle.rl_arrays.specs.TableMachine.{range_of}
use Rattle.rl_tables.proofs.look_ups.range_of.Given as goal

abbrev pub invariant-loop-low : goal.invariant-loop-low
invariant-loop-low l = record {
  same : range_of l.key.0 l.ends ≡ option_map (λ r. l.range + r) (range_of l.key.0 l.rest);
  few : l.range + length l.rest ≤ length l.ends;
}

abbrev pub decreases-loop-low : goal.decreases-loop-low
decreases-loop-low l = length l.rest
