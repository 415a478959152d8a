use Rattle.std.proofs.Common.{◌≤◌, ◌+◌, length, take}
use Rattle.rl_classes.proofs.Numbers.{Numbers}
use Rattle.rl_classes.proofs.partition.numbered.Given as goal

abbrev pub invariant-loop-step : goal.invariant-loop-step
invariant-loop-step l = record {
  numbers : Numbers l.table.keys l.first l.pairs.first l.later.items (take l.step-index l.pairs.later.items);
  few : length l.table.keys ≤ l.step-index + 1;
}
