use Rattle.std.proofs.Common.{◌≡◌, ◌∷◌, ◌++◌, [], ap, ◌∙◌, cond, true, false, nat_eq, rules}
use Rattle.std.specs.List.{list_any}
use Rattle.rl_types.specs.declared.numbers.ActionId.{ActionId}
use Rattle.rl_labels.specs.Labels.{numbers}
use Rattle.rl_labels.proofs.Once.{numbers_more, listed_numbers}
use Rattle.rl_scan.proofs.tokens.push_once.Goals as goal

pub returns-in_ok-push : goal.returns-in_ok-push
returns-in_ok-push c =
    let old = c.args.actions.now.items in
    let e : false ≡ list_any (λ (b : ActionId). nat_eq b.0 c.args.number) old = search rules in
    ap numbers c.in_ok-push.ensures ∙ numbers_more old (record { 0 = c.args.number }) ∙ ap (λ b. cond b (numbers old) (numbers old ++ c.args.number ∷ [])) (e ∙ listed_numbers c.args.number old)

pub returns-else-not-contains : goal.returns-else-not-contains
returns-else-not-contains c =
    let old = c.args.actions.now.items in
    let e : true ≡ list_any (λ (b : ActionId). nat_eq b.0 c.args.number) old = search rules in
    ap (λ b. cond b (numbers old) (numbers old ++ c.args.number ∷ [])) (e ∙ listed_numbers c.args.number old)
