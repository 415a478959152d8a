use Rattle.std.proofs.Common.{◌∙◌, ap}
use Rattle.rl_run.proofs.Turns.{chosen_none, chosen_some}
use Rattle.rl_arrays.specs.TableMachine.{machine}
use Rattle.rl_tables.specs.Steps.{go_by}
use Rattle.rl_runner.specs.Sessions.{session_of}
use Rattle.rl_runner.proofs.turns.choose.Goals as goal

pub returns-in-Stay-clause-plays : goal.returns-in-Stay-clause-plays
returns-in-Stay-clause-plays g c =
    let m = machine c.args.tables.now in
    let none = c.find.ensures.step ∙ ap (go_by c.args.tables.now) c.in-Stay.is in
    rw (chosen_none m c.args.settings.now c.args.spot.now c.args.key (session_of m c.args.s.now) c.args.hold none) c.miss.ensures.plays

pub returns-in-Go-clause-plays : goal.returns-in-Go-clause-plays
returns-in-Go-clause-plays g c =
    let m = machine c.args.tables.now in
    let some = c.find.ensures.step ∙ ap (go_by c.args.tables.now) c.in-Go.is in
    let stepped = rw c.list.ensures.value at c.step.ensures.plays in
    rw (chosen_some m c.args.settings.now c.args.spot.now c.args.key (session_of m c.args.s.now) c.args.hold _ some) stepped
