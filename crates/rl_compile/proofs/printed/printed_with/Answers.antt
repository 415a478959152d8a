use Rattle.std.proofs.Common.{◌≡◌, ◌∙◌, rules}
use Rattle.rl_compile.proofs.PrintLaws.{parts_printed}
use Rattle.rl_compile.proofs.printed.printed_with.Goals as goal

pub returns : goal.returns
returns c =
    let here : c.deref.result.now ≡ c.in_ok-shown.shown.items = search rules in
    parts_printed _ _ _ _ _ _ _ _ c.as_slice.ensures (here ∙ c.in_ok-shown.ensures) c.in_ok-parts.ensures c.in_ok-printed.ensures
