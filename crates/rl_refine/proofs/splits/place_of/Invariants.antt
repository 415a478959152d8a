use Rattle.std.proofs.Common.{◌-◌}
use Rattle.rl_refine.proofs.LinkLaws.{IsOn}
use Rattle.rl_refine.proofs.splits.place_of.Given as goal

abbrev pub invariant-firsts : goal.invariant-firsts
invariant-firsts l = IsOn l.machine l.classes l.state l.at

abbrev pub decreases-firsts : goal.decreases-firsts
decreases-firsts l = l.state - l.at
