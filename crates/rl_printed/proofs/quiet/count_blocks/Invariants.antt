use Rattle.std.proofs.Common.{◌≡◌, ◌+◌, ◌≤◌, drop}
use Rattle.rl_printed.specs.Reading.{blocks_in}
use Rattle.rl_printed.proofs.quiet.count_blocks.Given as goal

-- those so far, and those of the parts that are left
abbrev pub invariant-loop-part : goal.invariant-loop-part
invariant-loop-part l = (l.count + blocks_in (drop l.part-index l.parts) ≡ blocks_in l.parts) × (l.count ≤ l.part-index)
