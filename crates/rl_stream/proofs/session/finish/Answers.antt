use Rattle.rl_stream.proofs.Steps.{finished}
use Rattle.rl_stream.proofs.session.finish.Goals as goal

pub returns : goal.returns
returns c =
    finished c.args.was_over _ _ _ c.args.log.now c.take_end.new.log c.push_stop.new.log c.push_end.new.log
    c.args.sessions.now c.take_end.new.sessions (c.in_ok-outcome.ensures.taken c.in_ok-outcome.ensures.room) c.next_of-next.ensures c.in_ok-push_stop.ensures
    c.verdict_of-verdict.ensures c.in_ok-push_end.ensures
