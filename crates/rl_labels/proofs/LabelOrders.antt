-- Stamps and priorities are in order, and only equal ones tie.
use Rattle.std.specs.Ordering.{nat_cmp, int_cmp}
use Rattle.rl_sets.specs.Order.{IsOrder, pair_order}
use Rattle.rl_sets.proofs.OrderLaws.{by_parts, nat_order, int_order, pair_is_order}
use Rattle.rl_labels.specs.declared.stamped.Stamp.{Stamp}
use Rattle.rl_labels.specs.declared.priors.Prior.{Prior}
use Rattle.rl_labels.specs.Labels.{stamp_cmp, prior_cmp}

pub stamp_order : IsOrder stamp_cmp
stamp_order = by_parts (λ (x : Stamp). x.major) (λ x. (x.minor, x.action.0)) nat_order (pair_is_order nat_order nat_order)
    (λ x y e f. λ i. record { major = e i; minor = (f i).0; action = record { 0 = (f i).1 } })

rank_parts : IsOrder (pair_order nat_cmp int_cmp)
rank_parts = pair_is_order nat_order int_order

pub prior_order : IsOrder prior_cmp
prior_order = by_parts (λ (x : Prior). x.name) (λ x. (x.stamp, x.value)) nat_order rank_parts
    (λ x y e f. λ i. record { name = e i; stamp = (f i).0; value = (f i).1 })
