use Rattle.rl_automata.proofs.HonestLaws.{honest_agree}
use Rattle.rl_automata.proofs.ScanLaws.{scanners_agree, token_lists_agree}
use Rattle.rl_automata.proofs.laws.honest_tests_agree.Goals as goal

pub returns-clause-expressions : goal.returns-clause-expressions
returns-clause-expressions c = honest_agree

pub returns-clause-scanners : goal.returns-clause-scanners
returns-clause-scanners c = scanners_agree

pub returns-clause-tokens : goal.returns-clause-tokens
returns-clause-tokens c = token_lists_agree
