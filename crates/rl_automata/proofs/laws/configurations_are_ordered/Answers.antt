use Rattle.rl_automata.proofs.MarksLaws.{auto_order, scan_order}
use Rattle.rl_automata.proofs.laws.configurations_are_ordered.Goals as goal

pub returns-clause-expressions : goal.returns-clause-expressions
returns-clause-expressions c = auto_order

pub returns-clause-scanners : goal.returns-clause-scanners
returns-clause-scanners c = scan_order
