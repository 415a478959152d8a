-- The arrays are valid, and show the machine.
use Rattle.std.proofs.Common.{◌∙◌, sym, subst}
use Rattle.rl_arrays.proofs.First.{not_both}
use Rattle.rl_arrays.specs.Valid.{Valid}
use Rattle.rl_layout.proofs.ShownLaws.{shown_by}
use Rattle.rl_layout.proofs.ValidLaws.{arrays_valid}
use Rattle.rl_layout.proofs.lay.layout.Goals as goal

pub unreachable-requires : goal.unreachable-requires
unreachable-requires c =
    let valid = arrays_valid c.args.spec.now c.args.min.now c.states.ensures.minimal c.requires.well_formed c.requires.fits in
    not_both c.in_ok-arrays.arrays c.in-Err.field-0 (subst Valid (sym c.in_ok-arrays.ensures) valid) c.in-Err.ensures

pub returns-clause-shows : goal.returns-clause-shows
returns-clause-shows c = shown_by c.args.spec.now c.args.min.now c.in-Ok.tables (c.in-Ok.ensures.0 ∙ c.in_ok-arrays.ensures) c.states.ensures.minimal c.requires.well_formed
