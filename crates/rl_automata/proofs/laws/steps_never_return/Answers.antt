use Rattle.rl_automata.proofs.StartLaws.{never_returns, scan_never}
use Rattle.rl_automata.proofs.laws.steps_never_return.Goals as goal

pub returns-clause-expressions : goal.returns-clause-expressions
returns-clause-expressions c = never_returns

pub returns-clause-scanners : goal.returns-clause-scanners
returns-clause-scanners c = scan_never
