use Rattle.rl_run.proofs.Ends.{leaf}
use Rattle.rl_run.proofs.Law.{turn_law}
use Rattle.rl_run.specs.Fine.{GoesOn, UnlessStops}
use Rattle.rl_runner.specs.Sessions.{session_of}
use Rattle.rl_arrays.specs.TableMachine.{machine}
use Rattle.rl_runner.proofs.feeds.take_turn.Goals as goal

pub returns-clause-follows : goal.returns-clause-follows
returns-clause-follows g c =
    let m = machine c.args.tables.now in
    let s = session_of m c.args.s.now in
    leaf (λ d. UnlessStops d.flow (GoesOn m c.args.settings.now s d.session)) _ _ _ _ _
    (turn_law m c.args.settings.now s _ c.requires.kinded c.requires.fine c.requires.next) c.run_turn.ensures.plays
