use Rattle.rl_leaves.proofs.RegularLaws.{items_step, items_end}
use Rattle.rl_leaves.proofs.regular_item.regular_items.Goals as goal

pub items-preserved : goal.items-preserved
items-preserved c =
    items_step _ _ _ _ _ _ _ _ _ _ c.in-Some.ensures.cases.0 c.in_ok-names.ensures c.behind_named-tail.ensures c.begins_with-is_starred.ensures
    c.without-rest.ensures c.in_ok-push.ensures c.items.invariant

pub returns : goal.returns
returns c = items_end _ _ _ c.in_default.ensures.cases c.items.invariant
