use Rattle.std.proofs.Common.{true, false, sym}
use Rattle.rl_run.proofs.Cuts.{on_enough, played}
use Rattle.rl_runner.proofs.Broken.{turns_lower}
use Rattle.rl_runner.proofs.Letters.{limit, played_by}
use Rattle.rl_runner.proofs.runner.Runner.feed.Goals as goal

pub returns-in-Some-clause-wants : goal.returns-in-Some-clause-wants
returns-in-Some-clause-wants g c = λ e.
    let kept = rw c.in-Some.is at c.self.invariant.kept in
    let wants = rw e at kept in
    cc

pub returns-in-Some-clause-over_after : goal.returns-in-Some-clause-over_after
returns-in-Some-clause-over_after g c =
    let kept = rw c.in-Some.is at c.self.invariant.kept in
    rw (← c.self.view_is, c.in-Some.is) (sym kept)

pub returns-clause-played : goal.returns-clause-played
returns-clause-played g c = λ none.
    let p = c.feed_state-outcome.ensures.plays in
    let fine = rw c.in_default.is at c.self.invariant.fine in
    let low = rw (← c.self.view_is) at c.requires.base in
    let end = rw (← c.self.view_is, ← c.width_in-width.ensures.value) at c.requires.end in
    let below = limit c.width_in-width.result c.args.base c.args.window.now false c.width_in-width.ensures.some end in
    rw (← c.self.view_is)
    (played_by _ _ _ c.width_in-width.result _ c.args.base c.args.window.now false _ _ _ _ c.width_in-width.ensures.value
    (played _ _ _ _ _ (on_enough _ _ c.self.invariant.kinded _ true _ below p.0 _ _ _ _ _ fine low p.1)))

pub returns-clause-lowers : goal.returns-clause-lowers
returns-clause-lowers g c = λ none broke.
    let p = c.feed_state-outcome.ensures.plays in
    let q = rw broke at p.1 in
    let fine = rw c.in_default.is at c.self.invariant.fine in
    let low = rw (← c.self.view_is) at c.requires.base in
    let end = rw (← c.self.view_is, ← c.width_in-width.ensures.value) at c.requires.end in
    let below = limit c.width_in-width.result c.args.base c.args.window.now false c.width_in-width.ensures.some end in
    rw (← c.self.view_is) (turns_lower _ _ c.self.invariant.kinded _ _ below _ _ p.0 _ _ fine low q)
