use Rattle.std.proofs.Common.{◌≡◌, drop}
use Rattle.rl_automata.specs.Auto.{carries}
use Rattle.rl_ops.specs.Settled.{is_beaten}
use Rattle.rl_ops.proofs.settle.beats_it.Given as goal

abbrev pub invariant-loop-m : goal.invariant-loop-m
invariant-loop-m l = is_beaten (carries l.moves) l.c ≡ is_beaten (carries (drop l.m-index l.moves)) l.c
