-- The items of a regular expression, one by one.
use Rattle.std.proofs.Common.{◌≡◌, ℕ, ◌≤◌, ◌+◌, Bool, true, false, cond, List, [], ◌∷◌, ◌++◌, length, drop, ap, sym, ◌∙◌, append_assoc, append-nil, arith, length-drop}
use Rattle.rl_leaves.specs.declared.text.Character.{Character}
use Rattle.rl_leaves.specs.declared.regular_item.Named.{Named}
use Rattle.rl_leaves.specs.declared.regular_item.RegularItem.{RegularItem}
use Rattle.rl_leaves.specs.Texts.{is_plain, begins_with, without}
use Rattle.rl_leaves.specs.RegularExpressions.{before_close, named_at, item_at, behind_named, behind_item, regular_items}
use Rattle.rl_leaves.proofs.CutLaws.{cut_more, cut_none}

shorter : (b : Bool) (n : ℕ) (cs : List Character) → length (cond b (drop n cs) cs) ≤ length cs
shorter true n cs = omega (arith, length-drop n cs)
shorter false n cs = omega arith

pub behind_shrinks : (x : Character) (cs : List Character) → length (behind_item x cs) ≤ length cs
behind_shrinks x cs =
    let named : length (behind_named x cs) ≤ length cs = shorter (is_plain 91 x) (before_close cs + 1) cs in
    let star : length (without 42 (behind_named x cs)) ≤ length (behind_named x cs) = shorter (begins_with 42 (behind_named x cs)) 1 (behind_named x cs) in
    omega arith

pub items_more : (x : Character) (cs : List Character) → regular_items (x ∷ cs) ≡ item_at x cs ∷ regular_items (behind_item x cs)
items_more x cs = cut_more item_at behind_item behind_shrinks x cs

-- a turn of the loop
pub items_step : (whole found found' : List RegularItem) (xs rest tail : List Character) (x : Character) (cs : List Character) (names : Named) (starred : Bool)
    → xs ≡ x ∷ cs → names ≡ named_at x cs → tail ≡ behind_named x cs → starred ≡ begins_with 42 tail → rest ≡ without 42 tail
    → found' ≡ found ++ record { names = names; is_starred = starred } ∷ [] → found ++ regular_items xs ≡ whole → found' ++ regular_items rest ≡ whole
items_step whole found found' xs rest tail x cs names starred here named behind star without_star more e =
    let start : found ++ regular_items (x ∷ cs) ≡ whole = ap (λ z. found ++ regular_items z) (sym here) ∙ e in
    rw (more, without_star, star, named, behind)
    (append_assoc found (item_at x cs ∷ []) (regular_items (behind_item x cs)) ∙ (ap (λ z. found ++ z) (sym (items_more x cs)) ∙ start))

pub items_end : (whole found : List RegularItem) (xs : List Character) → length xs ≡ 0 → found ++ regular_items xs ≡ whole → found ≡ whole
items_end whole found [] z e = sym (append-nil found) ∙ (ap (λ z. found ++ z) (sym (cut_none item_at behind_item behind_shrinks)) ∙ e)
items_end whole found (x ∷ xs) z e = absurd (omega arith)
