use Rattle.std.proofs.Common.{◌≡◌, ◌≤◌, ◌+◌, ◌∷◌, ◌++◌, [], ℕ, pos, Some, length, take, get_or, refl, sym, rules, arith}
use Rattle.std.specs.Prelude.{slice_get}
use Rattle.std.proofs.lemmas.List.{take_more, take_all}
use Rattle.rl_classes.specs.declared.steps.Step.{Step}
use Rattle.rl_classes.proofs.Numbers.{numbers_more, numbers_are}
use Rattle.rl_classes.proofs.partition.numbered.Goals as goal

pub loop-step-preserved : goal.loop-step-preserved
loop-step-preserved c =
    let steps = c.args.pairs.now.later.items in
    let i = c.loop-step.step-index in
    let keys = c.number_of-in-loop-step.new.table.keys in
    let m = c.in_ok-value.value in
    let d : Step (ℕ × ℕ) = record { from = pos 0; value = (0, 0) } in
    let p : Step (ℕ × ℕ) = get_or steps i d in
    let number : slice_get keys m ≡ Some p.value = search rules in
    let more : c.push.new.items.items ≡ c.loop-step.later.items ++ record { from = p.from; value = m } ∷ [] = search rules in
    let few = c.loop-step.invariant.few in
    let one_more = c.in_ok-value.ensures.one_more in
    record {
      numbers = rw (take_more steps i d (search rules)) (numbers_more _ keys _ _ _ _ _ p m c.loop-step.invariant.numbers c.in_ok-value.ensures.goes_on c.in_ok-value.ensures.distinct number more);
      few = omega (arith, few, one_more);
    }

pub returns : goal.returns
returns c = numbers_are c.loop-step.table.keys _ _ _ _ refl (take_all c.loop-step.step-index c.args.pairs.now.later.items (search rules)) c.loop-step.invariant.numbers
