use Rattle.std.proofs.Common.{◌≡◌, rules}
use Rattle.rl_compile.proofs.PrintLaws.{printed_seen}
use Rattle.rl_compile.proofs.printed.printed_for.Goals as goal

pub returns-in-Ok-printed_with-clause-printed : goal.returns-in-Ok-printed_with-clause-printed
returns-in-Ok-printed_with-clause-printed c =
    let here : c.deref.result.now ≡ c.in-Ok.tables.items = search rules in
    printed_seen _ _ _ _ _ _ _ c.as_slice.ensures here c.requires.named c.in-Ok.ensures.made c.in-Ok-printed_with.ensures
