use Rattle.std.proofs.Common.{suc, true, ◌∙◌, sym, ap, arith}
use Rattle.rl_run.proofs.Ends.{unless_stops}
use Rattle.rl_run.proofs.Runs.{plays_turn, plays_on, plays_broke, plays_stopped, plays_past, plays_delivery, plays_last}
use Rattle.rl_runner.specs.Sessions.{kept_of}
use Rattle.rl_runner.specs.Feeds.{closed_of}
use Rattle.rl_arrays.specs.TableMachine.{machine}
use Rattle.rl_runner.proofs.Letters.{letter_here, ends_whole, ends_half}
use Rattle.rl_runner.proofs.ends.end_state.Goals as goal

pub returns-in-Stops-clause-plays : goal.returns-in-Stops-clause-plays
returns-in-Stops-clause-plays g c =
    let seen = letter_here c.args.width c.args.base c.args.window.now true c.loop-s.s.next _ (omega arith) (omega arith) c.place_at-at.ensures.value in
    c.loop-s.invariant.plays 1 _ _ (plays_turn _ _ _ _ _ 0 _ _ _ _ _ _ _ seen c.in-Stops.ensures.plays (plays_stopped _ _ _ _ _ _ _ _ _))

pub returns-in-Breaks-clause-plays : goal.returns-in-Breaks-clause-plays
returns-in-Breaks-clause-plays g c =
    let seen = letter_here c.args.width c.args.base c.args.window.now true c.loop-s.s.next _ (omega arith) (omega arith) c.place_at-at.ensures.value in
    c.loop-s.invariant.plays 1 _ _ (plays_turn _ _ _ _ _ 0 _ _ _ _ _ _ _ seen c.in-Breaks.ensures.plays (plays_broke _ _ _ _ _ _ _))

pub loop-s-preserved-in_default : goal.loop-s-preserved-in_default
loop-s-preserved-in_default g c =
    let seen = letter_here c.args.width c.args.base c.args.window.now true c.loop-s.s.next _ (omega arith) (omega arith) c.place_at-at.ensures.value in
    let follows = unless_stops c.take_turn.result _ c.in_default.not-Stops c.take_turn.ensures.follows in
    let keeps = follows.keeps in
    record {
      callable = c.take_turn.ensures.callable;
      sound = c.take_turn.ensures.sound;
      fine = follows.fine;
      base = omega (arith, keeps);
      plays = λ n last r p. c.loop-s.invariant.plays (suc n) last r
          (plays_turn _ _ _ _ _ n _ _ _ _ _ _ _ seen c.take_turn.ensures.plays (plays_on _ _ _ _ _ n _ _ _ last r c.in_default.not-Breaks c.in_default.not-Stops p));
    }

pub returns-then-is_cut-clause-plays : goal.returns-then-is_cut-clause-plays
returns-then-is_cut-clause-plays g c =
    c.loop-s.invariant.plays 1 _ _ (ends_half _ _ _ c.args.width c.args.base c.args.window.now _ 0 _ _ (omega arith) (sym c.is_cut.ensures ∙ c.if-is_cut.true))

pub returns-then-s-end-2-clause-plays : goal.returns-then-s-end-2-clause-plays
returns-then-s-end-2-clause-plays g c =
    let whole = sym c.is_cut.ensures ∙ c.if-is_cut.false in
    let at = c.end_at-end.ensures.value in
    let input = closed_of c.args.width c.args.base c.args.window.now in
    c.loop-s.invariant.plays 1 _ _
    (ends_whole _ _ _ c.args.width c.args.base c.args.window.now _ 0 _ _ _ _ _ (omega arith) whole at (plays_past _ _ _ input _ _ _ _ _ (omega arith)))

pub returns-in-None-clause-plays : goal.returns-in-None-clause-plays
returns-in-None-clause-plays g c =
    let whole = sym c.is_cut.ensures ∙ c.if-is_cut.false in
    let at = c.end_at-end.ensures.value in
    let input = closed_of c.args.width c.args.base c.args.window.now in
    c.loop-s.invariant.plays 1 _ _ (ends_whole _ _ _ c.args.width c.args.base c.args.window.now _ 0 _ _ _ _ _ (omega arith) whole at
    (plays_last _ _ _ input _ _ _ _ _ _ _ (omega arith) (ap (kept_of (machine c.args.tables.now)) c.in-None.is) c.call_last.ensures.plays))

pub returns-in-Stops-deliver_last-clause-plays : goal.returns-in-Stops-deliver_last-clause-plays
returns-in-Stops-deliver_last-clause-plays g c =
    let whole = sym c.is_cut.ensures ∙ c.if-is_cut.false in
    let at = c.end_at-end.ensures.value in
    let input = closed_of c.args.width c.args.base c.args.window.now in
    let kept = ap (kept_of (machine c.args.tables.now)) c.in-Some.is in
    c.loop-s.invariant.plays 1 _ _ (ends_whole _ _ _ c.args.width c.args.base c.args.window.now _ 0 _ _ _ _ _ (omega arith) whole at
    (plays_delivery _ _ _ input _ _ _ _ _ _ _ _ _ _ (omega arith) kept c.in-Stops-deliver_last.ensures.plays (plays_stopped _ _ _ input _ 0 _ _ _)))

pub returns-in-Breaks-deliver_last-clause-plays : goal.returns-in-Breaks-deliver_last-clause-plays
returns-in-Breaks-deliver_last-clause-plays g c =
    let whole = sym c.is_cut.ensures ∙ c.if-is_cut.false in
    let at = c.end_at-end.ensures.value in
    let input = closed_of c.args.width c.args.base c.args.window.now in
    let kept = ap (kept_of (machine c.args.tables.now)) c.in-Some.is in
    c.loop-s.invariant.plays 1 _ _ (ends_whole _ _ _ c.args.width c.args.base c.args.window.now _ 0 _ _ _ _ _ (omega arith) whole at
    (plays_delivery _ _ _ input _ _ _ _ _ _ _ _ _ _ (omega arith) kept c.in-Breaks-deliver_last.ensures.plays (plays_broke _ _ _ input 0 _ _)))

pub loop-s-preserved : goal.loop-s-preserved
loop-s-preserved g c =
    let whole = sym c.is_cut.ensures ∙ c.if-is_cut.false in
    let at = c.end_at-end.ensures.value in
    let input = closed_of c.args.width c.args.base c.args.window.now in
    let kept = ap (kept_of (machine c.args.tables.now)) c.in-Some.is in
    let follows = unless_stops c.deliver_last.result _ c.in_default-deliver_last.not-Stops c.deliver_last.ensures.follows in
    let keeps = follows.keeps in
    record {
      callable = c.deliver_last.ensures.callable;
      sound = c.deliver_last.ensures.sound;
      fine = follows.fine;
      base = omega (arith, keeps);
      plays = λ n last r p. c.loop-s.invariant.plays (suc n) last r
          (ends_whole _ _ _ c.args.width c.args.base c.args.window.now _ n _ _ _ _ _ (omega arith) whole at
          (plays_delivery _ _ _ input _ _ _ _ _ _ _ _ _ _ (omega arith) kept c.deliver_last.ensures.plays
          (plays_on _ _ _ input _ n _ _ _ last r c.in_default-deliver_last.not-Breaks c.in_default-deliver_last.not-Stops p)));
    }
