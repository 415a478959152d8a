use Rattle.std.proofs.Common.{rules, ◌≡◌}
use Rattle.rl_leaves.specs.Ranges.{part}
use Rattle.rl_leaves.proofs.GatherLaws.{part_low, part_high}
use Rattle.rl_leaves.proofs.ranges.part.Goals as goal

pub returns-clause-low : goal.returns-clause-low
returns-clause-low c =
    let value : c.from_to.result ≡ part c.args.first c.args.last c.args.range = search rules in
    part_low c.args.first c.args.last c.args.range c.from_to.result value

pub returns-clause-high : goal.returns-clause-high
returns-clause-high c =
    let value : c.from_to.result ≡ part c.args.first c.args.last c.args.range = search rules in
    part_high c.args.first c.args.last c.args.range c.from_to.result value
