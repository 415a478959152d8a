use Rattle.std.proofs.Common.{◌∙◌, ap, refl, false}
use Rattle.rl_runner.specs.Feeds.{over_after}
use Rattle.rl_sessions.proofs.Loops.{behind_start, behind_more, behind_end, short_behind, played_of, fine_of, kinded_of, broke_of}
use Rattle.rl_runner.proofs.Letters.{limit}
use Rattle.rl_sessions.proofs.Widths.{width_there}
use Rattle.rl_sessions.proofs.windows.feed_window.Goals as goal

pub loop-outcome-init : goal.loop-outcome-init
loop-outcome-init g c = (c.requires.callable, c.requires.going, refl, refl, behind_start _ _ _ _ _ _ _ c.requires.base c.requires.short)

pub returns-then-is_over-clause-ran : goal.returns-then-is_over-clause-ran
returns-then-is_over-clause-ran g c =
    let i = c.loop-outcome.invariant in
    let e = c.feed-outcome.ensures in
    behind_end _ _ _ _ _ _ _ _ _ _ _ i.4 (kinded_of _ _ i.2 e.kinded) (fine_of _ _ _ i.2 (e.fine i.1)) refl
    (limit _ c.args.base c.args.window.now false (width_there c.args.runner.now.tables) c.requires.end) _
    (c.is_over.ensures.over c.if-is_over.true)
    (played_of _ c.args.base c.args.window.now false _ _ _ _ _ _ _ _ i.2 i.3 (e.played i.1))

pub returns-then-is_over-clause-short : goal.returns-then-is_over-clause-short
returns-then-is_over-clause-short g c = λ wants.
    let i = c.loop-outcome.invariant in
    let e = c.feed-outcome.ensures in
    short_behind _ _ _ _ _ _ _ _ _ refl (limit _ c.args.base c.args.window.now false (width_there c.args.runner.now.tables) c.requires.end)
    (kinded_of _ _ i.2 e.kinded) (fine_of _ _ _ i.2 (e.fine i.1)) i.4.short wants
    (played_of _ c.args.base c.args.window.now false _ _ _ _ _ _ _ _ i.2 i.3 (e.played i.1))

pub loop-outcome-smaller : goal.loop-outcome-smaller
loop-outcome-smaller g c =
    c.feed-outcome.ensures.lowers c.loop-outcome.invariant.1 (c.is_over.ensures.broke c.if-is_over.false)

pub loop-outcome-preserved : goal.loop-outcome-preserved
loop-outcome-preserved g c =
    let i = c.loop-outcome.invariant in
    let e = c.feed-outcome.ensures in
    let broke = c.is_over.ensures.broke c.if-is_over.false in
    let none = e.over_after ∙ ap over_after broke in
    let low = rw (e.same.1, i.3) at e.keeps none in (
      e.callable,
      none,
      e.same.0 ∙ i.2,
      e.same.1 ∙ i.3,
      behind_more _ _ _ _ _ _ _ _ _ _ _ i.4 (kinded_of _ _ i.2 e.kinded) (fine_of _ _ _ i.2 (e.fine i.1)) refl
          (limit _ c.args.base c.args.window.now false (width_there c.args.runner.now.tables) c.requires.end) low
          (broke_of _ _ _ _ _ _ broke (played_of _ c.args.base c.args.window.now false _ _ _ _ _ _ _ _ i.2 i.3 (e.played i.1))),
    )
