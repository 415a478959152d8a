use Rattle.rl_sessions.specs.OneSession.{session_value}
use Rattle.rl_sessions.proofs.Ones.{ends_rest, ends_run}
use Rattle.rl_sessions.proofs.one.end_one.Goals as goal

pub returns-in-Some-clause-ends : goal.returns-in-Some-clause-ends
returns-in-Some-clause-ends g c = ends_rest _ _ _ _ (session_value c.args.one.now) _ _ _ c.in-Some.is

pub returns-clause-ends : goal.returns-clause-ends
returns-clause-ends g c =
    let e = c.end_window-outcome.ensures in
    let one = c.args.one.now in
    let new = c.end_window-outcome.new in
    let ran = rw (c.base-base.ensures, c.bytes.ensures.value) at e.ran in
    ends_run _ _ _ one.window c.args.host.now one.runner.session c.end_window-outcome.result new.host new.runner.session c.without_room-2.result one.name.items one.over c.over_of-one.result one.is_closed
    c.in_default.is c.over_of-one.ensures ran e.unbroken e.ends
