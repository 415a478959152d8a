use Rattle.rl_playback.proofs.Results.{on_ok}
use Rattle.rl_playback.proofs.deeds.finish.Goals as goal

pub returns : goal.returns
returns c =
    on_ok c.push_ends.result
    (λ adds. record {
      outcome = c.in_ok-outcome.outcome;
      mid = c.take_end.new.log;
      was_stopped = c.has_stopped-was_stopped.result;
      stopped = c.has_stopped-was_stopped.ensures.stopped;
      going = c.has_stopped-was_stopped.ensures.going;
      taken = c.in_ok-outcome.ensures.taken;
      room = c.in_ok-outcome.ensures.room;
      adds = adds;
    })
    c.push_ends.ensures
