use Rattle.std.proofs.Common.{◌≡◌, ◌∷◌, [], true, false, ℤ, pos, ◌+ℤ◌, refl, rules}
use Rattle.std.specs.Prelude.{◌≤ℤ◌}
use Rattle.rl_classes.proofs.SetLaws.{range_tells}
use Rattle.rl_classes.proofs.sets.of_range.Goals as goal

pub returns : goal.returns
returns c =
    let r = c.args.range.now in
    let later : c.push-2.new.items.items ≡ record { from = r.lo; value = true } ∷ record { from = r.hi +ℤ pos 1; value = false } ∷ [] = search rules in
    let up : r.lo ≤ℤ r.hi = rw c.lo.ensures.end at c.lo.ensures.ordered in
    range_tells r _ up refl later
