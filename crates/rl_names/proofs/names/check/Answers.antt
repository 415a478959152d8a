use Rattle.std.proofs.Common.{subst}
use Rattle.rl_names.specs.Names.{statement_fault}
use Rattle.rl_names.specs.TableForms.{count_in}
use Rattle.rl_names.specs.Tables.{seen, Notes}
use Rattle.rl_names.proofs.names.check.Goals as goal

pub returns : goal.returns
returns c =
    let t = c.args.tables.now in
    let s = c.args.step.now.statement in
    subst (λ m. Notes (statement_fault (seen t) m (count_in m t.counts) s) m s t c.statement.new.tables c.statement.result) c.bytes.ensures c.statement.ensures
