use Rattle.std.proofs.Common.{◌≡◌, take}
use Rattle.std.specs.Prelude.{map, All}
use Rattle.rl_leaves.specs.Forms.{IsItem}
use Rattle.rl_leaves.specs.Literals.{character_item}
use Rattle.rl_leaves.proofs.literal.character_items.Given as goal

abbrev pub invariant-loop-c : goal.invariant-loop-c
invariant-loop-c l = record {
  value : l.items ≡ map (character_item l.alphabet l.folds) (take l.c-index l.characters);
  form : All (IsItem l.alphabet) l.items;
}
