use Rattle.rl_sessions.proofs.pieces.feed_and_drop.Goals as goal

pub returns-clause-ran : goal.returns-clause-ran
returns-clause-ran g c = rw (c.base-base.ensures, c.bytes.ensures.value) at c.feed_window-outcome.ensures.ran
