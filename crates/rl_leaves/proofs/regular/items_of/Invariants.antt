use Rattle.std.proofs.Common.{◌≡◌, take}
use Rattle.std.specs.Prelude.{map, All}
use Rattle.rl_leaves.specs.Forms.{IsItem}
use Rattle.rl_leaves.specs.RegularExpressions.{item_of}
use Rattle.rl_leaves.proofs.regular.items_of.Given as goal

abbrev pub invariant-loop-item : goal.invariant-loop-item
invariant-loop-item l = record {
  value : l.made ≡ map (item_of l.alphabet l.folds) (take l.item-index l.items);
  form : All (IsItem l.alphabet) l.made;
}
