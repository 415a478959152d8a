use Rattle.std.proofs.Common.{length}
use Rattle.rl_printed.specs.Reading.{AreHosts}
use Rattle.rl_printed.proofs.quiet.check_parts.Given as goal

-- where the parts that are left are right, all are
abbrev pub invariant-loop-part : goal.invariant-loop-part
invariant-loop-part l = AreHosts l.rest → AreHosts l.parts

abbrev pub decreases-loop-part : goal.decreases-loop-part
decreases-loop-part l = length l.rest
