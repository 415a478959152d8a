use Rattle.std.proofs.Common.{◌∙◌, ◌++◌, ◌∷◌, [], sym, ap, refl, append_assoc}
use Rattle.std.proofs.lemmas.Result.{err_from_is_err_and}
use Rattle.std.specs.Vec.Iter.{into_iter_items}
use Rattle.rl_explore.proofs.NumberLaws.{numbered_more, numbered_full, full_to}
use Rattle.rl_explore.proofs.number.numbered.Goals as goal

pub loop-f-preserved : goal.loop-f-preserved
loop-f-preserved g c = record {
  numbered = rw c.in_ok-push.ensures (numbered_more _ _ _ _ _ c.in-Some.f _ c.loop-f.invariant.numbered c.in_ok-target.ensures.number refl refl refl refl);
  few = c.in_ok-target.ensures.few;
  whole = c.loop-f.invariant.whole ∙ ap (λ w. c.loop-f.yielded ++ w) c.in-Some.ensures.steps.0 ∙ sym (append_assoc c.loop-f.yielded (c.in-Some.f ∷ []) (into_iter_items c.next.new.self));
}

pub returns-in_err-target-clause-full : goal.returns-in_err-target-clause-full
returns-in_err-target-clause-full g c =
    let p = err_from_is_err_and c.from_residual.result c.from_residual.ensures.1 in
    rw (p.1, p.2) (full_to _ _ c.in_err-target.field-0.0
    (numbered_full c.args.room c.args.names.now c.loop-f.names c.args.found.items c.loop-f.yielded (into_iter_items c.next.new.self) c.loop-f.edges.items c.in-Some.f c.loop-f.invariant.numbered
    (c.loop-f.invariant.whole ∙ ap (λ w. c.loop-f.yielded ++ w) c.in-Some.ensures.steps.0 ∙ sym (append_assoc c.loop-f.yielded (c.in-Some.f ∷ []) (into_iter_items c.next.new.self))))
    c.in_err-target.ensures.full)
