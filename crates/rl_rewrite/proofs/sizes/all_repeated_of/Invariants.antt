use Rattle.std.proofs.Common.{◌≡◌, drop}
use Rattle.rl_rewrite.specs.Measures.{IsCut, all_repeated_size}
use Rattle.rl_rewrite.proofs.sizes.all_repeated_of.Given as goal

abbrev pub invariant-loop-r : goal.invariant-loop-r
invariant-loop-r l = IsCut l.s × (all_repeated_size l.s (drop l.r-index l.rs) ≡ all_repeated_size l.initial.s l.rs)
