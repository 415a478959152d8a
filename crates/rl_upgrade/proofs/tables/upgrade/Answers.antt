-- The arrays are valid, and show the machine.
use Rattle.std.proofs.Common.{◌≡◌, ap, ◌∙◌, sym, subst}
use Rattle.rl_arrays.specs.Shared.{upgraded}
use Rattle.rl_arrays.specs.Valid.{Valid}
use Rattle.rl_arrays.proofs.First.{not_both}
use Rattle.rl_upgrade.specs.Shows.{ShowsSame}
use Rattle.rl_upgrade.proofs.TwinLaws.{upgraded_twin}
use Rattle.rl_upgrade.proofs.ValidLaws.{upgraded_valid}
use Rattle.rl_upgrade.proofs.tables.upgrade.Goals as goal

pub unreachable-requires : goal.unreachable-requires
unreachable-requires c =
    let old = c.args.tables.now in
    let is : c.in_ok-arrays.arrays ≡ upgraded old = c.in_ok-arrays.ensures ∙ ap upgraded c.arrays.ensures.same in
    not_both c.in_ok-arrays.arrays c.in-Err.field-0 (subst Valid (sym is) (upgraded_valid old c.arrays.ensures.valid)) c.in-Err.ensures

pub returns-clause-shows : goal.returns-clause-shows
returns-clause-shows c =
    let old = c.args.tables.now in
    let is : c.in_ok-arrays.arrays ≡ upgraded old = c.in_ok-arrays.ensures ∙ ap upgraded c.arrays.ensures.same in
    subst (ShowsSame old) (sym (c.in-Ok.ensures.0 ∙ is)) (upgraded_twin old c.arrays.ensures.valid)
