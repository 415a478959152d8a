use Rattle.std.proofs.Common.{length}
use Rattle.rl_resolve.specs.Machines.{AreBehind}
use Rattle.rl_resolve.proofs.machines.from_end.Given as goal

abbrev pub invariant-loop-draft : goal.invariant-loop-draft
invariant-loop-draft l = AreBehind l.files l.drafts l.initial.drafts l.machines

abbrev pub decreases-loop-draft : goal.decreases-loop-draft
decreases-loop-draft l = length l.drafts
