use Rattle.std.proofs.Common.{◌∙◌, sym}
use Rattle.rl_sessions.proofs.Ones.{open_wants, takes_piece}
use Rattle.rl_sessions.proofs.Widths.{width_there}
use Rattle.rl_sessions.proofs.one.feed_one.Goals as goal

pub returns-clause-one : goal.returns-clause-one
returns-clause-one g c =
    let e = c.feed_piece-outcome.ensures in
    record {
      tables = e.same.0;
      settings = e.same.1;
      over = e.over_after ∙ sym c.over_of-one.ensures;
      ready = λ none. e.ready (open_wants _ e.unbroken (sym c.over_of-one.ensures ∙ none));
    }

pub returns-clause-takes : goal.returns-clause-takes
returns-clause-takes g c =
    let e = c.feed_piece-outcome.ensures in
    let one = c.args.one.now in
    let new = c.feed_piece-outcome.new in
    takes_piece _ _ _ one.window c.args.piece.now c.args.host.now one.runner.session c.feed_piece-outcome.result new.host new.runner.session new.window one.name.items one.over c.over_of-one.result one.is_closed
    (width_there one.runner.tables) c.in_default.is c.over_of-one.ensures e.kinded e.fine (c.requires.end c.in_default.is) e.ran e.wants e.window e.unbroken
