use Rattle.rl_sessions.proofs.Whole.{starts_so, pieces_run_on, ends_run_out}
use Rattle.rl_sessions.proofs.from_start.sessions_run_from_their_start.Goals as goal

pub returns-clause-start : goal.returns-clause-start
returns-clause-start c = λ m settings entry name some. starts_so m settings entry name some

pub returns-clause-pieces : goal.returns-clause-pieces
returns-clause-pieces c = λ m step some kinded. pieces_run_on _ m some kinded

pub returns-clause-ends : goal.returns-clause-ends
returns-clause-ends c = λ m step some kinded. ends_run_out _ m some kinded
