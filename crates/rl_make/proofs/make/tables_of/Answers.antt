use Rattle.rl_make.proofs.make.tables_of.Goals as goal

pub laid_out-requires-clause-built : goal.laid_out-requires-clause-built
laid_out-requires-clause-built c = record { machines = c.in_ok-root.ensures.follows; tests = c.in_ok-root.ensures.tests; twin = c.in_ok-root.ensures.twin }
