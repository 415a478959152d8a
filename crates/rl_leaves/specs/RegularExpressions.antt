-- Regular expressions, `/../` (the guide's section 2.3).
use Rattle.std.specs.Prelude.{ℕ, Bool, false, not, ◌+◌, if◌then◌else◌, Option, Some, None, List, [], ◌∷◌, map, take, drop, Result, Ok, Err}
use Rattle.std.specs.List.{prefix_len, list_any}
use Rattle.rl_types.specs.declared.alphabet.Alphabet.{Alphabet}
use Rattle.rl_types.specs.KeyRange.{Range}
use Rattle.rl_draft.specs.declared.expression.Item.{Item}
use Rattle.rl_draft.specs.declared.expression.Leaf.{Leaf}
use Rattle.rl_draft.specs.declared.expression.Leaf.TheVariants as leaf
use Rattle.rl_leaves.specs.declared.text.Character.{Character}
use Rattle.rl_leaves.specs.declared.character_set.CharacterSet.{CharacterSet}
use Rattle.rl_leaves.specs.declared.regular_item.Named.{Named}
use Rattle.rl_leaves.specs.declared.regular_item.Named.TheVariants as named
use Rattle.rl_leaves.specs.declared.regular_item.RegularItem.{RegularItem}
use Rattle.rl_leaves.specs.declared.fault.KeyFault.{KeyFault}
use Rattle.rl_leaves.specs.declared.fault.KeyFault.TheVariants as fault
use Rattle.rl_leaves.specs.Texts.{characters_within, ignores_case, is_plain, begins_with, without}
use Rattle.rl_leaves.specs.Cuts.{cut}
use Rattle.rl_leaves.specs.CharacterSets.{set_of, set_is_reversed, every_character, is_empty_word}
use Rattle.rl_leaves.specs.Ranges.{set_ranges, character_ranges}

-- ---- what is written

-- the characters before the plain `]` that ends a set
abbrev pub before_close : List Character → ℕ
before_close cs = prefix_len (λ c. not (is_plain 93 c)) cs

-- what an item names whose first character stands before the others: a set, `.`, or the character
abbrev pub named_at : Character → List Character → Named
named_at c cs =
    if is_plain 91 c then named.Set (set_of (take (before_close cs) cs)) else
    (if is_plain 46 c then named.Set every_character else named.Character c.byte)

-- what stands behind that
abbrev pub behind_named : Character → List Character → List Character
behind_named c cs = if is_plain 91 c then drop (before_close cs + 1) cs else cs

abbrev pub item_at : Character → List Character → RegularItem
item_at c cs = record { names = named_at c cs; is_starred = begins_with 42 (behind_named c cs) }

abbrev pub behind_item : Character → List Character → List Character
behind_item c cs = without 42 (behind_named c cs)

-- the items, in order
abbrev pub regular_items : List Character → List RegularItem
regular_items cs = cut item_at behind_item cs

-- ---- what it says

-- `[]` is the empty word
abbrev pub set_ranges_or_none : Alphabet → Bool → CharacterSet → Option (List Range)
set_ranges_or_none alphabet folds s = if is_empty_word s then None else Some (set_ranges alphabet folds s)

abbrev pub named_ranges : Alphabet → Bool → Named → Option (List Range)
named_ranges alphabet folds (named.Character b) = Some (character_ranges alphabet folds b)
named_ranges alphabet folds (named.Set s) = set_ranges_or_none alphabet folds s

abbrev pub item_of : Alphabet → Bool → RegularItem → Item
item_of alphabet folds x = record { ranges = named_ranges alphabet folds x.names; starred = x.is_starred }

abbrev pub named_is_reversed : Alphabet → Named → Bool
named_is_reversed alphabet (named.Character b) = false
named_is_reversed alphabet (named.Set s) = set_is_reversed alphabet s

abbrev pub item_is_reversed : Alphabet → RegularItem → Bool
item_is_reversed alphabet x = named_is_reversed alphabet x.names

-- no items are the empty word
abbrev pub items_leaf : Alphabet → Bool → List RegularItem → Leaf
items_leaf alphabet folds [] = leaf.Null
items_leaf alphabet folds (x ∷ xs) = leaf.Row (map (item_of alphabet folds) (x ∷ xs))

abbrev pub checked : Alphabet → Bool → List RegularItem → Result Leaf KeyFault
checked alphabet folds items =
    if list_any (item_is_reversed alphabet) items then Err fault.Reversed else
    Ok (items_leaf alphabet folds items)

-- what a regular expression says
abbrev pub regular_leaf : Alphabet → List ℕ → Result Leaf KeyFault
regular_leaf alphabet text = checked alphabet (ignores_case text) (regular_items (characters_within text))
