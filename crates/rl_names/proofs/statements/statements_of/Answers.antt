use Rattle.std.proofs.Common.{arith}
use Rattle.rl_code.specs.Reading.{statement_of}
use Rattle.rl_names.specs.TableForms.{texts}
use Rattle.rl_names.proofs.EntryLaws.{statements_go_on}
use Rattle.rl_names.proofs.statements.statements_of.Goals as goal

pub loop-one-preserved : goal.loop-one-preserved
loop-one-preserved c =
    statements_go_on (statement_of (texts c.args.entries.now)) c.args.said.now c.loop-one.one-index c.one-item.result _ c.loop-one.list c.add.new.list (omega arith) c.one-item.is c.in_ok-add.ensures
    c.loop-one.invariant
