use Rattle.rl_stream.specs.Log.{tables_of}
use Rattle.rl_stream.proofs.Blockwise.{closes_so, closes_not}
use Rattle.rl_stream.proofs.streaming.run_all.Goals as goal

pub returns-in-Ok-close-clause-streams : goal.returns-in-Ok-close-clause-streams
returns-in-Ok-close-clause-streams g c =
    closes_so (tables_of c.args.log.now) c.args.settings c.args.entry.0 _ _ _ _ c.in-Ok.is_over _ _ c.in-Ok.ensures.read _ c.in-Ok-close.ensures.closes

pub returns-in-Err-close-clause-leaves : goal.returns-in-Err-close-clause-leaves
returns-in-Err-close-clause-leaves g c =
    closes_not (tables_of c.args.log.now) c.args.settings c.args.entry.0 _ _ _ _ c.in-Ok.is_over _ _ c.in-Ok.ensures.read _ c.in-Err-close.fault c.in-Err-close.ensures.not
