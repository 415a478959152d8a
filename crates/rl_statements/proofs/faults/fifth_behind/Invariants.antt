use Rattle.std.proofs.Common.{◌≡◌, ◌≤◌, drop}
use Rattle.rl_statements.specs.Outer.{fifth_behind}
use Rattle.rl_statements.proofs.faults.fifth_behind.Given as goal

abbrev pub invariant-loop-s : goal.invariant-loop-s
invariant-loop-s l = record {
  few : l.seen ≤ 4;
  value : fifth_behind l.seen (drop l.s-index l.said) ≡ fifth_behind 0 l.said;
}
