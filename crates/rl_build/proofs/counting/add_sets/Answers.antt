use Rattle.std.proofs.Common.{◌++◌, ◌∷◌, [], subst, Bool}
use Rattle.rl_build.specs.Adds.{AddsAll}
use Rattle.rl_build.proofs.CellLaws.{adds_more, or_true, or_false}
use Rattle.rl_build.proofs.counting.add_sets.Goals as goal

pub loop-set-preserved-then-added : goal.loop-set-preserved-then-added
loop-set-preserved-then-added c =
    let old = c.args.sets.now.items in
    let ys = c.loop-set.yielded in
    let new = c.add_set.new.sets.items in
    subst (λ (w : Bool). AddsAll old (ys ++ c.in-Some.set ∷ []) new w) (or_true c.loop-set.added c.in_ok-is_new.is_new c.if-added.true)
    (adds_more old ys c.loop-set.sets.items new c.in-Some.set c.loop-set.added c.in_ok-is_new.is_new c.loop-set.invariant c.in_ok-is_new.ensures)

pub loop-set-preserved : goal.loop-set-preserved
loop-set-preserved c =
    let old = c.args.sets.now.items in
    let ys = c.loop-set.yielded in
    let new = c.add_set.new.sets.items in
    subst (λ (w : Bool). AddsAll old (ys ++ c.in-Some.set ∷ []) new w) (or_false c.loop-set.added c.in_ok-is_new.is_new c.if-added.false)
    (adds_more old ys c.loop-set.sets.items new c.in-Some.set c.loop-set.added c.in_ok-is_new.is_new c.loop-set.invariant c.in_ok-is_new.ensures)
