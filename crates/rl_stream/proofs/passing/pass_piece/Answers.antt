use Rattle.rl_stream.proofs.passing.pass_piece.Goals as goal

pub returns-in-Err-clause-breaks : goal.returns-in-Err-clause-breaks
returns-in-Err-clause-breaks g c = record {
  kept = c.in-Err.ensures.kept;
  front = λ e. (c.in-Ok.over, c.feed.new.log, c.feed.new.sessions, c.in-Ok.ensures, c.in-Err.ensures.front e);
  no_input = c.in-Err.ensures.faults.0;
  no_length = c.in-Err.ensures.faults.1;
}
