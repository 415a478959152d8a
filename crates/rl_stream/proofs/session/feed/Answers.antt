use Rattle.rl_stream.proofs.Steps.{fed}
use Rattle.rl_stream.proofs.session.feed.Goals as goal

pub returns : goal.returns
returns c =
    fed c.args.was_over c.is_over-over.result c.args.piece.now _ _ c.args.log.now c.take_piece.new.log c.push_stop.new.log
    c.args.sessions.now c.take_piece.new.sessions (c.in_ok-outcome.ensures.taken c.in_ok-outcome.ensures.room) c.next_of-next.ensures c.in_ok-push_stop.ensures c.is_over-over.ensures
