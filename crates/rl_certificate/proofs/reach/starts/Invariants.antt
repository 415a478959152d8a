use Rattle.std.proofs.Common.{List, [], drop}
use Rattle.rl_certificate.specs.declared.certificate.Access.{Access}
use Rattle.rl_certificate.specs.Reaches.{AreBegun}
use Rattle.rl_certificate.proofs.reach.starts.Given as goal

-- what the entries that are left add, all add
abbrev pub invariant-loop-i : goal.invariant-loop-i
invariant-loop-i l =
    (end : List Access) → AreBegun l.met.items end l.i (drop l.i l.entries) → AreBegun [] end 0 l.entries
