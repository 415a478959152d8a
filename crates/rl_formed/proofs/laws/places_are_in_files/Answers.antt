use Rattle.rl_formed.proofs.DraftLaws.{have_actions_in, have_writes_in}
use Rattle.rl_formed.proofs.laws.places_are_in_files.Goals as goal

pub returns-clause-actions : goal.returns-clause-actions
returns-clause-actions c = have_actions_in

pub returns-clause-writes : goal.returns-clause-writes
returns-clause-writes c = have_writes_in
