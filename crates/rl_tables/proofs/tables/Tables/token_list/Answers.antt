use Rattle.rl_tables.proofs.ListNumbers.{token_is_list}
use Rattle.rl_tables.proofs.tables.Tables.token_list.Goals as goal

pub list_at-requires-clause-list : goal.list_at-requires-clause-list
list_at-requires-clause-list c =
    let place = rw (c.as_slice.ensures, c.arrays-a.ensures.same) at c.count_at.ensures.value in
    rw (c.arrays-a.ensures.same, place) (token_is_list c.args.self.now c.arrays-a.ensures.valid c.args.state c.requires)
