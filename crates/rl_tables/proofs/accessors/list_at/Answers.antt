use Rattle.rl_tables.proofs.ListNumbers.{members_fit}
use Rattle.rl_tables.proofs.accessors.list_at.Goals as goal

pub returns-clause-actions : goal.returns-clause-actions
returns-clause-actions c =
    rw (c.members_at.ensures, c.as_slice.ensures) (members_fit c.args.a.now c.requires.valid c.args.place c.requires.list)
