use Rattle.rl_stream.proofs.streaming.close.Goals as goal

pub returns-in-Err-clause-not : goal.returns-in-Err-clause-not
returns-in-Err-clause-not g c = record {
  kept = c.in-Err.ensures.kept;
  front = λ e. (c.finish.new.log, c.in-Ok.ensures, c.in-Err.ensures.front e);
  no_input = c.in-Err.ensures.faults.0;
  no_length = c.in-Err.ensures.faults.1;
}
