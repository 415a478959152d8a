use Rattle.std.proofs.Common.{◌≡◌, ◌++◌, map, OnOk, refl, ap, subst, ◌∙◌}
use Rattle.rl_grammar.specs.declared.syntax.Pattern.{out-Pattern}
use Rattle.rl_names.specs.Events.{seen, token_events, union_events, uses_from, pattern_uses}
use Rattle.rl_names.specs.Places.{union_place}
use Rattle.rl_names.proofs.EventLaws.{two_parts}
use Rattle.rl_names.proofs.events.pattern.Goals as goal

pub returns : goal.returns
returns c =
    let p = out-Pattern c.args.pattern.now in
    let own : map seen c.as_slice.result.now ≡ union_events p.value = ap (map seen) c.as_slice.ensures.value ∙ (c.in_ok-union.ensures ∙ ap (λ z. map seen z ++ union_events p.value) c.new-own.ensures.items) in
    let used = c.in_ok-uses_from.ensures ∙ (λ j. map seen c.args.found.now.items ++ uses_from (c.union_place.ensures j) (own j)) in
    subst (λ z. OnOk c.token.result (map seen c.token.new.found.items ≡ z))
    (two_parts (map seen c.args.found.now.items) (map seen c.uses_from.new.found.items) (uses_from (union_place p.value) (union_events p.value)) (token_events p.action) (token_events p.action) (pattern_uses c.args.pattern.now) used refl refl) c.token.ensures
