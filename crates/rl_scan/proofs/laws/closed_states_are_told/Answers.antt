use Rattle.rl_scan.proofs.ClosedLaws.{closed_told, scanner_tests}
use Rattle.rl_scan.proofs.laws.closed_states_are_told.Goals as goal

pub returns-clause-states : goal.returns-clause-states
returns-clause-states c = closed_told

pub returns-clause-tests : goal.returns-clause-tests
returns-clause-tests c = scanner_tests
