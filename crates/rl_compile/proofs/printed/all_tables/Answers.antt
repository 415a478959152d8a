use Rattle.std.proofs.Common.{rules}
use Rattle.rl_compile.proofs.TableLaws.{next_formed, next_made, all_made}
use Rattle.rl_compile.proofs.printed.all_tables.Goals as goal

pub tables_where-requires : goal.tables_where-requires
tables_where-requires c = next_formed _ _ _ _ _ c.in-Some.ensures.cases.0 c.loop-spec.invariant

pub loop-spec-preserved : goal.loop-spec-preserved
loop-spec-preserved c = next_made _ _ _ _ _ _ _ c.in-Some.ensures.cases.0 (search rules) c.in-Ok.ensures.made c.loop-spec.invariant

pub returns-clause-made : goal.returns-clause-made
returns-clause-made c = all_made _ _ _ c.in_default.ensures.cases c.loop-spec.invariant
