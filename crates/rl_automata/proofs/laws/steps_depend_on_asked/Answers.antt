use Rattle.rl_automata.proofs.AskedLaws.{steps_by_asked, scan_by_asked}
use Rattle.rl_automata.proofs.laws.steps_depend_on_asked.Goals as goal

pub returns-clause-expressions : goal.returns-clause-expressions
returns-clause-expressions c = steps_by_asked

pub returns-clause-scanners : goal.returns-clause-scanners
returns-clause-scanners c = scan_by_asked
