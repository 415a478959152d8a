use Rattle.rl_cread.proofs.read.read_tables.Goals as goal

pub returns-clause-only : goal.returns-clause-only
returns-clause-only c = c.tables_in.ensures.only
