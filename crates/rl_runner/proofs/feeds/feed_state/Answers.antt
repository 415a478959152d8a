use Rattle.std.proofs.Common.{suc, false, refl, arith}
use Rattle.rl_run.proofs.Ends.{unless_stops}
use Rattle.rl_run.proofs.Runs.{plays_turn, plays_wants, plays_on, plays_broke, plays_stopped}
use Rattle.rl_runner.proofs.Letters.{letter_here, letter_past}
use Rattle.rl_runner.proofs.feeds.feed_state.Goals as goal

pub returns-in-Stops-clause-plays : goal.returns-in-Stops-clause-plays
returns-in-Stops-clause-plays g c =
    let seen = letter_here c.args.width c.args.base c.args.window.now false c.loop-s.s.next _ (omega arith) (omega arith) c.place_at-at.ensures.value in
    c.loop-s.invariant.plays 1 _ _ (plays_turn _ _ _ _ _ 0 _ _ _ _ _ _ _ seen c.in-Stops.ensures.plays (plays_stopped _ _ _ _ _ _ _ _ _))

pub returns-in-Breaks-clause-plays : goal.returns-in-Breaks-clause-plays
returns-in-Breaks-clause-plays g c =
    let seen = letter_here c.args.width c.args.base c.args.window.now false c.loop-s.s.next _ (omega arith) (omega arith) c.place_at-at.ensures.value in
    c.loop-s.invariant.plays 1 _ _ (plays_turn _ _ _ _ _ 0 _ _ _ _ _ _ _ seen c.in-Breaks.ensures.plays (plays_broke _ _ _ _ _ _ _))

pub loop-s-preserved : goal.loop-s-preserved
loop-s-preserved g c =
    let seen = letter_here c.args.width c.args.base c.args.window.now false c.loop-s.s.next _ (omega arith) (omega arith) c.place_at-at.ensures.value in
    let follows = unless_stops c.take_turn.result _ c.in_default.not-Stops c.take_turn.ensures.follows in
    let keeps = follows.keeps in
    record {
      callable = c.take_turn.ensures.callable;
      sound = c.take_turn.ensures.sound;
      fine = follows.fine;
      base = omega (arith, keeps);
      plays = λ n last r p. c.loop-s.invariant.plays (suc n) last r
          (plays_turn _ _ _ _ _ n _ _ _ _ _ _ _ seen c.take_turn.ensures.plays (plays_on _ _ _ _ _ n _ _ _ last r c.in_default.not-Breaks c.in_default.not-Stops p));
    }

pub returns-clause-plays : goal.returns-clause-plays
returns-clause-plays g c =
    let none = letter_past c.args.width c.args.base c.args.window.now false c.loop-s.s.next (omega arith) in
    c.loop-s.invariant.plays 1 _ _ (plays_wants _ _ _ _ _ 0 _ _ none refl)
