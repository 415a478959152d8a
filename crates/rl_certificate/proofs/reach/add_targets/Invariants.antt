use Rattle.std.proofs.Common.{List, drop}
use Rattle.rl_certificate.specs.declared.certificate.Access.{Access}
use Rattle.rl_certificate.specs.Reaches.{AreAdded}
use Rattle.rl_certificate.proofs.reach.add_targets.Given as goal

-- what the edges that are left add, all add
abbrev pub invariant-loop-edge : goal.invariant-loop-edge
invariant-loop-edge l =
    (end : List Access) → AreAdded l.met.items end l.entry.0 l.word (drop l.edge-index l.edges) → AreAdded l.initial.met.items end l.entry.0 l.word l.edges
