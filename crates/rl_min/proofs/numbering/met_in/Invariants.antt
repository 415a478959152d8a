use Rattle.std.proofs.Common.{◌≡◌, drop}
use Rattle.rl_min.specs.Numbering.{with_classes, listed, ArePicked}
use Rattle.rl_min.proofs.numbering.met_in.Given as goal

abbrev pub invariant-loop-state : goal.invariant-loop-state
invariant-loop-state l = (with_classes l.met.classes.keys (drop l.state l.classes) ≡ listed l.classes) × ArePicked l.classes l.met.classes.keys l.met.states.items
