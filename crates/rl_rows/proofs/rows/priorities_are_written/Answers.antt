use Rattle.rl_rows.proofs.PlainRows.{higher_stays, equal_are_joined, longest_goes_on, each_begins, both_go_on}
use Rattle.rl_rows.proofs.rows.priorities_are_written.Goals as goal

pub returns-clause-higher_stays : goal.returns-clause-higher_stays
returns-clause-higher_stays c = higher_stays

pub returns-clause-equal_are_joined : goal.returns-clause-equal_are_joined
returns-clause-equal_are_joined c = equal_are_joined

pub returns-clause-longest_goes_on : goal.returns-clause-longest_goes_on
returns-clause-longest_goes_on c = longest_goes_on

pub returns-clause-each_begins : goal.returns-clause-each_begins
returns-clause-each_begins c = each_begins

pub returns-clause-both_go_on : goal.returns-clause-both_go_on
returns-clause-both_go_on c = both_go_on
