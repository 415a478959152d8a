use Rattle.std.proofs.Common.{◌≡◌, ◌<◌, length, subst, rules}
use Rattle.rl_certificate.specs.Tables.{rows_of, IsBegun}
use Rattle.rl_certificate.proofs.RoundStarts.{tried}
use Rattle.rl_certificate.proofs.rounds.first_row.Goals as goal

pub loop-high-preserved : goal.loop-high-preserved
loop-high-preserved c =
    let ordered : c.args.low < c.loop-high.high = search rules in
    let there : c.loop-high.high < length c.args.min.now.states = search rules in
    tried c.args.min.now c.args.homes (rows_of c.loop-high.table) c.loop-high.still.items (record { low = c.args.low; high = c.loop-high.high })
    (record { alive = c.requires.low; ordered = ordered; there = there }) c.loop-high.invariant
    (rows_of c.first_pair.new.table) c.first_pair.new.still.items c.in_ok-first_pair.ensures

pub returns : goal.returns
returns c =
    let last : c.loop-high.high ≡ length c.args.min.now.states = search rules in
    subst (IsBegun c.args.min.now c.args.homes (rows_of c.loop-high.table) c.loop-high.still.items c.args.low) last c.loop-high.invariant
