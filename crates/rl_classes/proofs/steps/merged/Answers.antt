use Rattle.std.proofs.Common.{◌≡◌, ◌∷◌, ◌++◌, [], rules}
use Rattle.rl_classes.specs.Steps.{passed}
use Rattle.rl_classes.proofs.Merge.{merge_step, merge_ends}
use Rattle.rl_classes.proofs.steps.merged.Goals as goal

pub loop-key-preserved : goal.loop-key-preserved
loop-key-preserved g c =
    let k = c.in-Some.key in
    let x_is : c.passed-x.result.0 ≡ (passed c.loop-key.lefts.now k c.loop-key.value.0).0 = search rules in
    let xs_is : c.passed-x.result.1.now ≡ (passed c.loop-key.lefts.now k c.loop-key.value.0).1 = search rules in
    let y_is : c.passed-y.result.0 ≡ (passed c.loop-key.rights.now k c.loop-key.value.1).0 = search rules in
    let ys_is : c.passed-y.result.1.now ≡ (passed c.loop-key.rights.now k c.loop-key.value.1).1 = search rules in
    let more_is : c.push.new.items.items ≡ c.loop-key.later.items ++ record { from = k; value = (c.passed-x.result.0, c.passed-y.result.0) } ∷ [] = search rules in
    merge_step _ _ _ _ c.loop-key.later.items c.push.new.items.items c.loop-key.value c.loop-key.lefts.now c.loop-key.rights.now k _ _ _ _ c.loop-key.invariant c.in-Some.ensures x_is xs_is y_is ys_is more_is

pub returns : goal.returns
returns g c =
    let whole = merge_ends _ _ _ _ c.loop-key.later.items c.loop-key.value c.loop-key.lefts.now c.loop-key.rights.now c.loop-key.invariant c.in_default.ensures in
    record { pairs = record { value = whole.0; ascends = whole.1; short = whole.2 } }
