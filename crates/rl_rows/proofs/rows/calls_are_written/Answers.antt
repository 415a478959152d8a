use Rattle.rl_rows.proofs.TestedRows.{returns_to_caller, returns_at_end}
use Rattle.rl_rows.proofs.rows.calls_are_written.Goals as goal

pub returns-clause-returns_to_caller : goal.returns-clause-returns_to_caller
returns-clause-returns_to_caller c = returns_to_caller

pub returns-clause-returns_at_end : goal.returns-clause-returns_at_end
returns-clause-returns_at_end c = returns_at_end
