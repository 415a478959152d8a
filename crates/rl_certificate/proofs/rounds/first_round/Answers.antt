use Rattle.std.proofs.Common.{◌≤◌, length, sym, subst, rules}
use Rattle.rl_certificate.specs.Tables.{rows_of, IsBegun}
use Rattle.rl_certificate.proofs.RoundStarts.{begun_first, row_over, begun_known, begun_open}
use Rattle.rl_certificate.proofs.rounds.first_round.Goals as goal

pub loop-low-init : goal.loop-low-init
loop-low-init c =
    subst (λ still. IsBegun c.args.min.now c.args.homes (rows_of c.args.table.now) still 1 2) (sym c.new-still.ensures.items)
    (begun_first c.args.min.now c.args.homes (rows_of c.args.table.now) c.requires.square c.requires.none)

pub loop-low-preserved : goal.loop-low-preserved
loop-low-preserved c = row_over c.args.min.now c.args.homes
    (rows_of c.first_row.new.table) c.first_row.new.still.items c.loop-low.low c.in_ok-first_row.ensures

pub returns-clause-known : goal.returns-clause-known
returns-clause-known c =
    let last : length c.args.min.now.states ≤ c.loop-low.low = search rules in
    begun_known c.args.min.now c.args.homes (rows_of c.loop-low.table) c.loop-low.still.items c.loop-low.low last c.loop-low.invariant

pub returns-clause-unknown : goal.returns-clause-unknown
returns-clause-unknown c =
    let last : length c.args.min.now.states ≤ c.loop-low.low = search rules in
    begun_open c.args.min.now c.args.homes (rows_of c.loop-low.table) c.loop-low.still.items c.loop-low.low last c.loop-low.invariant
