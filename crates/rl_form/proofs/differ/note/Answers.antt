use Rattle.std.proofs.Common.{◌≡◌, true, false, [], ◌∷◌, ◌++◌, map, ap, subst, ◌∙◌}
use Rattle.rl_sets.specs.Sets.{In}
use Rattle.rl_form.specs.Texts.{Text, texts}
use Rattle.rl_form.proofs.Apart.{is_new, is_known, one_more}
use Rattle.rl_form.proofs.differ.note.Goals as goal

pub returns-in-Ok-clause-new : goal.returns-in-Ok-clause-new
returns-in-Ok-clause-new c = subst (λ n. c.in-Ok.is_new ≡ true → In n (texts c.args.set.now) → ⊥) c.bytes.ensures (is_new c.bytes.result.now c.args.set.now.keys c.in-Ok.is_new c.in-Ok.ensures.added)

pub returns-in-Ok-clause-known : goal.returns-in-Ok-clause-known
returns-in-Ok-clause-known c = subst (λ n. c.in-Ok.is_new ≡ false → In n (texts c.args.set.now)) c.bytes.ensures (is_known c.bytes.result.now c.args.set.now.keys c.in-Ok.is_new c.in-Ok.ensures.added)

pub returns-in-Ok-clause-noted : goal.returns-in-Ok-clause-noted
returns-in-Ok-clause-noted c =
    subst
    (λ n. c.in-Ok.is_new ≡ true → texts c.insert.new.self ≡ texts c.args.set.now ++ n ∷ [])
    c.bytes.ensures
    (λ t. ap (map (λ (k : Text). k.now)) c.in-Ok.ensures.keys ∙ one_more c.bytes.result c.args.set.now.keys c.in-Ok.is_new c.in-Ok.ensures.added t)
