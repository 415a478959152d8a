use Rattle.std.proofs.Common.{ap, subst, sym, arith}
use Rattle.rl_run.specs.Run.{last_delivery}
use Rattle.rl_run.specs.Fine.{GoesOn, UnlessStops}
use Rattle.rl_run.specs.Play.{AllEnds}
use Rattle.rl_run.proofs.Ends.{leaf}
use Rattle.rl_run.proofs.Law.{delivery_law}
use Rattle.rl_run.proofs.Plays.{plays_bind}
use Rattle.rl_runner.specs.Sessions.{session_of, kept_of}
use Rattle.rl_arrays.specs.TableMachine.{machine}
use Rattle.rl_runner.proofs.ends.deliver_last.Goals as goal

pub returns-clause-plays : goal.returns-clause-plays
unfolding last_delivery
returns-clause-plays g c =
    let first = rw c.spot_at_end-spot.ensures at c.deliver-flow.ensures.plays in
    let second = rw c.spot_at_end-spot.ensures at c.finish.ensures.plays in
    plays_bind _ _ _ _ _ _ _ _ first second

pub returns-clause-follows : goal.returns-clause-follows
returns-clause-follows g c =
    let m = machine c.args.tables.now in
    let s = session_of m c.args.s.now in
    let list = m.token c.args.token in
    let law = delivery_law m c.args.settings.now s list c.requires.kinded c.requires.fine (omega (arith, c.requires.at, c.requires.below)) (ap (kept_of m) c.requires.kept) in
    leaf (λ d. UnlessStops d.flow (GoesOn m c.args.settings.now s d.session)) _ _ _ _ _
    (subst (λ p. AllEnds (λ d. UnlessStops d.flow (GoesOn m c.args.settings.now s d.session)) (last_delivery m c.args.settings.now p list s)) (sym c.requires.at) law)
    (returns-clause-plays g c)
