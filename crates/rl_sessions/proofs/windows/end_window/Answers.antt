use Rattle.std.proofs.Common.{◌∙◌, ap, refl, true}
use Rattle.rl_runner.specs.Feeds.{over_after}
use Rattle.rl_sessions.proofs.Loops.{ends_start, ends_more, ends_whole, played_of, fine_of, kinded_of, broke_of}
use Rattle.rl_sessions.proofs.Widths.{width_there}
use Rattle.rl_sessions.proofs.windows.end_window.Goals as goal

pub loop-outcome-init : goal.loop-outcome-init
loop-outcome-init g c = (c.requires.callable, c.requires.going, refl, refl, ends_start _ _ _ _ _ _ _ c.requires.base)

pub returns-then-is_over-clause-ran : goal.returns-then-is_over-clause-ran
returns-then-is_over-clause-ran g c =
    let i = c.loop-outcome.invariant in
    let e = c.end-outcome.ensures in
    ends_whole _ _ _ _ _ _ _ _ _ _ _ i.4 (width_there _) (kinded_of _ _ i.2 e.kinded) (fine_of _ _ _ i.2 (e.fine i.1)) c.requires.end _
    (c.is_over.ensures.over c.if-is_over.true)
    (played_of _ c.args.base c.args.window.now true _ _ _ _ _ _ _ _ i.2 i.3 (e.played i.1))

pub loop-outcome-smaller : goal.loop-outcome-smaller
loop-outcome-smaller g c =
    c.end-outcome.ensures.lowers c.loop-outcome.invariant.1 (c.is_over.ensures.broke c.if-is_over.false)

pub loop-outcome-preserved : goal.loop-outcome-preserved
loop-outcome-preserved g c =
    let i = c.loop-outcome.invariant in
    let e = c.end-outcome.ensures in
    let broke = c.is_over.ensures.broke c.if-is_over.false in
    let none = e.over_after ∙ ap over_after broke in
    let low = rw (e.same.1, i.3) at e.keeps none in (
      e.callable,
      none,
      e.same.0 ∙ i.2,
      e.same.1 ∙ i.3,
      ends_more _ _ _ _ _ _ _ _ _ _ _ i.4 (width_there _) (kinded_of _ _ i.2 e.kinded) (fine_of _ _ _ i.2 (e.fine i.1)) c.requires.end low
          (broke_of _ _ _ _ _ _ broke (played_of _ c.args.base c.args.window.now true _ _ _ _ _ _ _ _ i.2 i.3 (e.played i.1))),
    )
