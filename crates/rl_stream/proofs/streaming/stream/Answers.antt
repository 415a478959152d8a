use Rattle.rl_stream.proofs.Blockwise.{events_none}
use Rattle.rl_stream.proofs.streaming.stream.Goals as goal

pub returns-clause-events : goal.returns-clause-events
returns-clause-events g c = λ other. events_none c.args.tables.now c.args.settings c.args.entry.0 _ _
