use Rattle.std.proofs.Common.{◌≡◌, ◌++◌, drop}
use Rattle.rl_automata.specs.Auto.{carries, targets, kept}
use Rattle.rl_ops.specs.Settled.{all_carries}
use Rattle.rl_ops.proofs.settle.keep.Given as goal

abbrev pub invariant-loop-m : goal.invariant-loop-m
invariant-loop-m l = record {
  to : l.initial.to.items ++ targets (kept (all_carries l.lefts l.rights) l.moves) ≡ l.to.items ++ targets (kept (all_carries l.lefts l.rights) (drop l.m-index l.moves));
  parts : l.initial.parts.items ++ carries (kept (all_carries l.lefts l.rights) l.moves) ≡ l.parts.items ++ carries (kept (all_carries l.lefts l.rights) (drop l.m-index l.moves));
}
