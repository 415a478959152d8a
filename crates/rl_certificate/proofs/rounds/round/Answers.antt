use Rattle.std.proofs.Common.{get_or}
use Rattle.rl_certificate.specs.Tables.{rows_of}
use Rattle.rl_certificate.proofs.RoundSteps.{get_there, round_next, round_done}
use Rattle.rl_certificate.proofs.rounds.round.Goals as goal

pub loop-pair-preserved : goal.loop-pair-preserved
loop-pair-preserved c =
    round_next c.args.min.now c.args.homes c.states.ensures.minimal c.args.steps.now c.requires.steps c.args.count
    (rows_of c.args.table.now) c.requires.known
    c.args.unknown.now c.loop-pair.pair-index _ c.loop-pair-test.true c.requires.unknown (rows_of c.loop-pair.table)
    (rows_of c.next_pair.new.table) c.loop-pair.still.items c.next_pair.new.still.items
    c.loop-pair.invariant c.in_ok-next_pair.ensures

pub returns : goal.returns
returns c =
    round_done c.args.min.now c.args.homes c.states.ensures.minimal c.args.steps.now c.requires.steps c.args.count
    (rows_of c.args.table.now) c.requires.known
    (rows_of c.loop-pair.table) c.args.unknown.now c.loop-pair.still.items c.loop-pair.pair-index c.loop-pair-test.false c.requires.unknown
    c.loop-pair.invariant

pub next_pair-requires-clause-pair : goal.next_pair-requires-clause-pair
next_pair-requires-clause-pair c =
    (c.requires.unknown.each (get_or c.args.unknown.now c.loop-pair.pair-index (record { low = 0; high = 0 }))
    (get_there c.args.unknown.now c.loop-pair.pair-index (record { low = 0; high = 0 }) c.loop-pair-test.true)).0
