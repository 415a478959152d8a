use Rattle.std.proofs.Common.{drop}
use Rattle.rl_rewrite.specs.Entries.{AreSoFar, meanings_in}
use Rattle.rl_rewrite.proofs.entries.all_entries.Given as goal

abbrev pub invariant-loop-i : goal.invariant-loop-i
invariant-loop-i l = AreSoFar (drop l.i (meanings_in l.alphabet l.definitions)) (meanings_in l.alphabet l.definitions) l.made
