use Rattle.rl_tables.proofs.counts.may_move.Goals as goal

pub returns : goal.returns
returns c =
    let from = rw c.as_slice.ensures at c.is_in_none.ensures in
    let to = rw c.as_slice-2.ensures at c.is_in_none-2.ensures in (
      λ t. record { from = from.0 c.if-not-is_in_none.false; to = to.0 c.if-not-is_in_none-2.false; inner = c.is_in_no_scan.ensures.0 t },
      λ m. c.is_in_no_scan.ensures.1 m.inner,
    )
