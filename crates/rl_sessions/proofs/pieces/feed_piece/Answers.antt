use Rattle.std.proofs.Common.{◌∙◌, ap, drop}
use Rattle.rl_runner.specs.Feeds.{over_after}
use Rattle.rl_sessions.proofs.Loops.{fine_of}
use Rattle.rl_sessions.proofs.Widths.{width_there}
use Rattle.rl_sessions.proofs.Parts.{along_ran, along_more, along_past, along_part, ran_of, shorter}
use Rattle.rl_sessions.proofs.pieces.feed_piece.Goals as goal

pub returns-then-is_done-clause-ran : goal.returns-then-is_done-clause-ran
returns-then-is_done-clause-ran g c =
    let i = c.pieces.invariant in
    let e = c.feed_and_drop-outcome.ensures in
    let next = c.behind-rest.ensures ∙ ap (λ n. drop n c.pieces.rest.now) c.push-count.ensures.count in
    along_ran _ _ _ _ _ _ _ _ _ _ _ (width_there _) i.4 _ _ c.push-count.ensures.value next _ _ _ (ran_of _ _ _ _ _ _ _ _ _ _ _ _ i.2 i.3 e.ran)

pub returns-then-is_done-clause-wants : goal.returns-then-is_done-clause-wants
returns-then-is_done-clause-wants g c = λ wants.
    let i = c.pieces.invariant in
    let e = c.feed_and_drop-outcome.ensures in
    let next = c.behind-rest.ensures ∙ ap (λ n. drop n c.pieces.rest.now) c.push-count.ensures.count in
    let none = c.is_done.ensures.done c.if-is_done.true wants in
    let ended = rw i.2 at e.wants wants in
    along_past _ _ _ _ _ _ _ _ _ _ _ (width_there _) i.4 _ _ c.push-count.ensures.value next c.feed_and_drop-outcome.new.runner.session none ended

pub returns-then-is_done-clause-window : goal.returns-then-is_done-clause-window
returns-then-is_done-clause-window g c = λ wants.
    let i = c.pieces.invariant in
    let e = c.feed_and_drop-outcome.ensures in
    let next = c.behind-rest.ensures ∙ ap (λ n. drop n c.pieces.rest.now) c.push-count.ensures.count in
    let none = c.is_done.ensures.done c.if-is_done.true wants in
    along_part _ _ _ _ _ _ _ _ _ _ _ (width_there _) i.4 _ _ c.push-count.ensures.value next _ _ e.window none

pub pieces-smaller : goal.pieces-smaller
pieces-smaller g c =
    let i = c.pieces.invariant in
    let next = c.behind-rest.ensures ∙ ap (λ n. drop n c.pieces.rest.now) c.push-count.ensures.count in
    shorter _ _ _ _ _ _ i.4.ready next (c.is_done.ensures.more c.if-is_done.false).1

pub pieces-preserved : goal.pieces-preserved
pieces-preserved g c =
    let i = c.pieces.invariant in
    let e = c.feed_and_drop-outcome.ensures in
    let next = c.behind-rest.ensures ∙ ap (λ n. drop n c.pieces.rest.now) c.push-count.ensures.count in
    let wants = (c.is_done.ensures.more c.if-is_done.false).0 in
    let dropped = rw i.3 at e.window in
    let ready = rw (i.2, i.3) at e.ready wants in (
      e.callable,
      e.over_after ∙ ap over_after wants,
      e.same.0 ∙ i.2,
      e.same.1 ∙ i.3,
      along_more _ _ _ _ _ _ _ _ _ _ _ (width_there _) i.4 _ _ c.push-count.ensures.value next _ _ _ _ wants dropped ready (fine_of _ _ _ i.2 e.fine)
          (ran_of _ _ _ _ _ _ _ _ _ _ _ _ i.2 i.3 e.ran),
    )
