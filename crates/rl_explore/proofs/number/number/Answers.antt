use Rattle.rl_explore.proofs.NumberLaws.{inserted, inserted_few, inserted_full}
use Rattle.rl_explore.proofs.number.number.Goals as goal

pub returns-then-number-room-clause-full : goal.returns-then-number-room-clause-full
returns-then-number-room-clause-full g c =
    let s = c.in_ok-number.ensures.stored in
    inserted_full _ g.met.O.Operator.same c.args.names.now c.insert.new.self c.args.c s.0 c.in_ok-number.number c.in_ok-number.ensures.names c.in_ok-number.ensures.number s.1 s.2 c.args.room c.requires c.if-number-room.true

pub returns-clause-number : goal.returns-clause-number
returns-clause-number g c =
    let s = c.in_ok-number.ensures.stored in
    inserted _ g.met.O.Operator.same c.args.names.now c.insert.new.self c.args.c s.0 c.in_ok-number.number c.in_ok-number.ensures.names c.in_ok-number.ensures.number s.1 s.2

pub returns-clause-few : goal.returns-clause-few
returns-clause-few g c =
    let s = c.in_ok-number.ensures.stored in
    inserted_few _ g.met.O.Operator.same c.args.names.now c.insert.new.self c.args.c s.0 c.in_ok-number.number c.in_ok-number.ensures.names c.in_ok-number.ensures.number s.1 s.2 c.args.room c.requires c.if-number-room.false
