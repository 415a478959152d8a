use Rattle.std.proofs.Common.{◌≡◌, [], ◌++◌, ◌+◌, ◌∷◌, ℕ, suc, length, drop, get_or, refl, sym, ap, ◌∙◌, rules, arith, pos, to_z, of_z, w64}
use Rattle.std.specs.Prelude.{ℤ, ◌+ℤ◌, ◌≤ℤ◌}
use Rattle.std.specs.Int.{int_min, int_max}
use Rattle.std.proofs.Math.Seq.{drop-cons}
use Rattle.std.proofs.lemmas.List.{drop_all}
use Rattle.rl_types.specs.Alphabet.{least_key, greatest_key}
use Rattle.rl_classes.specs.declared.steps.Step.{Step}
use Rattle.rl_classes.specs.Pieces.{piece_up_to}
use Rattle.rl_classes.proofs.PieceLaws.{Cuts, cut_begins, cut_more, cuts_into, keys_span}
use Rattle.rl_classes.proofs.pieces.pieces.Goals as goal

pub loop-step-init : goal.loop-step-init
loop-step-init c =
    let lo : to_z w64 (of_z w64 c.least-lo.result) ≡ least_key c.args.alphabet = search rules in
    let end : to_z w64 (of_z w64 c.behind-behind.result) ≡ greatest_key c.args.alphabet +ℤ pos 1 = search rules in
    let up : least_key c.args.alphabet ≤ℤ to_z w64 (of_z w64 c.behind-behind.result) = rw end (keys_span c.args.alphabet) in
    rw c.new-pieces.ensures.items (cut_begins _ _ _ _ _ lo up c.requires)

pub loop-step-preserved : goal.loop-step-preserved
loop-step-preserved c =
    let steps = c.args.f.now.later.items in
    let i = c.loop-step.step-index in
    let d : Step ℕ = record { from = pos 0; value = 0 } in
    let s : Step ℕ = get_or steps i d in
    let lo : ℤ = to_z w64 c.loop-step.lo-bits in
    let behind : ℤ = to_z w64 (of_z w64 c.behind-behind.result) in
    let end : ℤ = to_z w64 (of_z w64 c.max-end.result) in
    let rest : drop i steps ≡ s ∷ drop (i + 1) steps = let next : suc i ≡ i + 1 = omega arith in drop-cons steps i d (search rules) ∙ ap (λ n. s ∷ drop n steps) next in
    let so_far : Cuts c.args.f.now.first steps (least_key c.args.alphabet) behind c.loop-step.pieces.items lo c.loop-step.number (s ∷ drop (i + 1) steps) = rw (← rest) c.loop-step.invariant in
    let end_is : end ≡ int_max (int_min s.from behind) lo = search rules in
    let more : c.push_up_to.new.pieces.items ≡ c.loop-step.pieces.items ++ piece_up_to lo end c.loop-step.number = search rules in
    rw c.deref-step-items.ensures.value (cut_more _ _ _ _ _ _ lo end c.loop-step.number s _ so_far end_is more)

pub returns : goal.returns
returns c =
    let steps = c.args.f.now.later.items in
    let lo : ℤ = to_z w64 c.loop-step.lo-bits in
    let behind : ℤ = to_z w64 (of_z w64 c.behind-behind.result) in
    let end : behind ≡ greatest_key c.args.alphabet +ℤ pos 1 = search rules in
    let so_far : Cuts c.args.f.now.first steps (least_key c.args.alphabet) behind c.loop-step.pieces.items lo c.loop-step.number [] = rw (← drop_all c.loop-step.step-index steps (search rules)) c.loop-step.invariant in
    let more : c.push_up_to-2.new.pieces.items ≡ c.loop-step.pieces.items ++ piece_up_to lo behind c.loop-step.number = search rules in
    cuts_into c.args.f.now c.args.alphabet _ _ lo behind c.loop-step.number end so_far more
