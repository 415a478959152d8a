use Rattle.std.proofs.Common.{take}
use Rattle.rl_build.specs.Entries.{AreEntriesBuilt}
use Rattle.rl_build.proofs.entries.machines.Given as goal

abbrev pub invariant-loop-entry : goal.invariant-loop-entry
invariant-loop-entry l = AreEntriesBuilt l.spec.alphabet (take l.entry-index l.spec.entries) l.root
