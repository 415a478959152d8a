use Rattle.rl_formed.proofs.DraftLaws.{have_named_entries, have_named_actions, have_named_machines}
use Rattle.rl_formed.proofs.laws.names_are_written.Goals as goal

pub returns-clause-entries : goal.returns-clause-entries
returns-clause-entries c = have_named_entries

pub returns-clause-actions : goal.returns-clause-actions
returns-clause-actions c = have_named_actions

pub returns-clause-machines : goal.returns-clause-machines
returns-clause-machines c = have_named_machines
