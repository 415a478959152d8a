use Rattle.std.proofs.Common.{inr, subst}
use Rattle.rl_playback.specs.Deeds.{Adds}
use Rattle.rl_playback.specs.Log.{stop_text}
use Rattle.rl_playback.proofs.Results.{on_ok}
use Rattle.rl_playback.proofs.deeds.feed.Goals as goal

pub returns : goal.returns
returns c =
    on_ok c.push_stop.result
    (λ adds. inr (record {
      outcome = c.in_ok-outcome.outcome;
      mid = c.take_piece.new.log;
      going = c.has_stopped.ensures.going c.if-has_stopped.false;
      taken = c.in_ok-outcome.ensures.taken;
      room = c.in_ok-outcome.ensures.room;
      adds = subst (λ n. Adds c.take_piece.new.log c.push_stop.new.log (stop_text c.args.name.now c.in_ok-outcome.outcome n)) c.next_of-next.ensures adds;
    }))
    c.push_stop.ensures
