-- Orders in which only equal values tie.
use Rattle.std.specs.Prelude.{◌≡◌}
use Rattle.std.specs.declared.cmp.Ordering.{Ordering}
use Rattle.std.specs.declared.cmp.Ordering.TheVariants.{Equal}
use Rattle.std.specs.Ordering.{ordering_then}
use Rattle.std.specs.Cmp.{IsTotalOrder}

pub record IsOrder {K : Type 0} (cmp : K → K → Ordering) : Type 0 where
  pub total : IsTotalOrder cmp
  pub same : (x y : K) → cmp x y ≡ Equal → x ≡ y

abbrev pub pair_order : {S T : Type 0} → (S → S → Ordering) → (T → T → Ordering) → S × T → S × T → Ordering
pair_order R Q x y = ordering_then (R x.0 y.0) (Q x.1 y.1)
