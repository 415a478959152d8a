use Rattle.std.proofs.Common.{◌≡◌, arith}
use Rattle.rl_tables.proofs.TargetLaws.{no_uses, uses_wrong, state_wrong}
use Rattle.rl_tables.proofs.targets.wrong_in_state.Goals as goal

pub loop-place-init : goal.loop-place-init
loop-place-init c = record { from = omega arith; wrong = no_uses c.args.a.now c.args.s c.use_range-from.result.0 }

pub loop-place-preserved : goal.loop-place-preserved
loop-place-preserved c = let I = c.loop-place.invariant in record {
  from = omega (arith, I.from);
  wrong = rw c.lesser-wrong.ensures (uses_wrong c.args.a.now c.args.s c.use_range-from.result.0 c.loop-place.place c.cell_at.result c.loop-place.wrong c.wrong_in_cell.result I.from c.cell_at.ensures.cell I.wrong c.wrong_in_cell.ensures);
}

pub returns : goal.returns
returns c =
    let I = c.loop-place.invariant in
    let all : c.loop-place.place ≡ c.use_range-from.result.1 = omega (arith, I.from, c.use_range-from.ensures.ordered) in
    state_wrong c.args.a.now c.args.s c.use_range-from.result.0 c.use_range-from.result.1 c.loop-place.wrong c.use_range-from.ensures.uses (rw all at I.wrong)
