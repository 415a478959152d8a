use Rattle.std.proofs.Common.{◌≤◌, ◌-◌, length, take}
use Rattle.rl_reach.specs.Walks.{IsWalk}
use Rattle.rl_reach.proofs.walk.walk.Given as goal

abbrev pub invariant-places : goal.invariant-places
invariant-places l = record {
  walk : IsWalk l.root (take l.i l.met.keys) l.met.keys;
  within : l.i ≤ length l.met.keys;
}

abbrev pub decreases-places : goal.decreases-places
decreases-places l = 2147483646 - l.i
