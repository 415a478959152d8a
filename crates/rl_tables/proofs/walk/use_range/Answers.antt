use Rattle.rl_tables.proofs.EntryLaws.{places_of, state_uses}
use Rattle.rl_tables.proofs.walk.use_range.Goals as goal

pub returns-clause-uses : goal.returns-clause-uses
returns-clause-uses c = state_uses c.args.a.now c.args.s _ _ c.first_use.ensures.sum c.first_use-2.ensures.sum

pub returns-clause-ordered : goal.returns-clause-ordered
returns-clause-ordered c = (places_of c.args.a.now c.requires.sound).rises c.args.s _ _ c.requires.state c.first_use.ensures.sum c.first_use-2.ensures.sum
