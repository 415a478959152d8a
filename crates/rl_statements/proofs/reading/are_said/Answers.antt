use Rattle.rl_statements.specs.Entries.{texts}
use Rattle.rl_statements.proofs.ReadLaws.{not_formed, not_named}
use Rattle.rl_statements.proofs.reading.are_said.Goals as goal

pub returns-then-not-are_formed : goal.returns-then-not-are_formed
returns-then-not-are_formed c = not_formed (texts c.args.entries.now) c.args.said.now c.args.statements.now c.are_formed.result c.are_formed.ensures c.if-not-are_formed.true

pub returns-then-not-are_named : goal.returns-then-not-are_named
returns-then-not-are_named c = not_named (texts c.args.entries.now) c.args.said.now c.args.statements.now c.are_named.result c.are_named.ensures c.if-not-are_named.true
