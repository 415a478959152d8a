-- The leaves that are read have their form.
use Rattle.std.proofs.Common.{◌≡◌, ℕ, Bool, true, false, ℤ, ◌≤ℤ◌, List, [], ◌∷◌, map, Option, None, Some, Result, Ok, Err, refl, sym, ap, subst, arith}
use Rattle.std.specs.Prelude.{if◌then◌else◌, not, int_lt, MatchOption}
use Rattle.std.specs.List.{list_any}
use Rattle.std.proofs.lemmas.Bool.{false≢true}
use Rattle.std.proofs.lemmas.Int.{ints}
use Rattle.rl_types.specs.declared.alphabet.Alphabet.{Alphabet}
use Rattle.rl_types.specs.declared.numbers.Place.{Place}
use Rattle.rl_types.specs.Alphabet.{has_key}
use Rattle.rl_draft.specs.declared.expression.Leaf.{Leaf}
use Rattle.rl_draft.specs.declared.expression.Leaf.TheVariants as leaf
use Rattle.rl_leaves.specs.declared.text.Character.{Character}
use Rattle.rl_leaves.specs.Texts.{characters, characters_within}
use Rattle.rl_leaves.specs.Forms.{AreRanges, IsItem, IsLeaf}
use Rattle.rl_leaves.specs.Literals.{character_item, characters_leaf, literal_leaf}
use Rattle.rl_leaves.proofs.FormLaws.{character_form, tested_form}
use Rattle.rl_leaves.proofs.SetForms.{set_form as ranges_form}
use Rattle.rl_types.specs.declared.numbers.Key.{Key}
use Rattle.rl_types.specs.KeyRange.{Range}
use Rattle.rl_leaves.specs.declared.character_set.CharacterSet.{CharacterSet}
use Rattle.rl_leaves.specs.declared.regular_item.Named.{Named}
use Rattle.rl_leaves.specs.declared.regular_item.Named.TheVariants as named
use Rattle.rl_leaves.specs.declared.regular_item.RegularItem.{RegularItem}
use Rattle.rl_leaves.specs.declared.fault.KeyFault.{KeyFault}
use Rattle.rl_leaves.specs.CharacterSets.{set_of, set_is_reversed, is_empty_word}
use Rattle.rl_leaves.specs.Ranges.{only, set_ranges}
use Rattle.rl_leaves.specs.Sets.{character_set_leaf, set_leaf}
use Rattle.rl_leaves.specs.Keys.{key_leaf, range_leaf}
use Rattle.rl_leaves.specs.RegularExpressions.{regular_items, named_ranges, item_of, item_is_reversed, items_leaf, regular_leaf}
use Rattle.rl_leaves.specs.Texts.{ignores_case}
use Rattle.rl_grammar.specs.Literals.{inside}
use Rattle.rl_grammar.specs.declared.syntax.Operand.{Operand, out-Operand}
use Rattle.rl_grammar.specs.declared.syntax.Operand.TheOpen as operand
use Rattle.rl_names.specs.Answers.{and_then}
use Rattle.rl_names.specs.Values.{Layer}
use Rattle.rl_names.specs.Leaves.{number_read, key_read, told_at, told_between, layer_leaf, leaf_read}
use Rattle.rl_names.specs.Places.{number_place, key_place}
use Rattle.rl_formed.proofs.ResultLaws.{ok_then, same_ok, err_or_ok}
use Rattle.rl_form.proofs.Lists.{Each, all}

-- ---- literals

items_form : (alphabet : Alphabet) (folds : Bool) (cs : List Character) → Each (IsItem alphabet) (map (character_item alphabet folds) cs)
items_form alphabet folds [] = tt
items_form alphabet folds (c ∷ cs) = (character_form alphabet folds c.byte, items_form alphabet folds cs)

characters_form : (alphabet : Alphabet) (folds : Bool) (cs : List Character) → IsLeaf alphabet (characters_leaf alphabet folds cs)
characters_form alphabet folds [] = tt
characters_form alphabet folds (c ∷ []) = character_form alphabet folds c.byte
characters_form alphabet folds (c ∷ d ∷ cs) = all (IsItem alphabet) (map (character_item alphabet folds) (c ∷ d ∷ cs)) (items_form alphabet folds (c ∷ d ∷ cs))

pub literal_form : (alphabet : Alphabet) (text : List ℕ) → IsLeaf alphabet (literal_leaf alphabet text)
literal_form alphabet text = characters_form alphabet _ (characters_within text)

-- ---- answers of tests

none_of : (f : KeyFault) (l : Leaf) → ◌≡◌ {A = Result Leaf KeyFault} (Err f) (Ok l) → ⊥
none_of f l e = cc

same_leaf : (x y : Leaf) → ◌≡◌ {A = Result Leaf KeyFault} (Ok x) (Ok y) → x ≡ y
same_leaf x y e = cc

not_first : (b : Bool) (f : KeyFault) (r : Result Leaf KeyFault) (l : Leaf) → (if b then Err f else r) ≡ Ok l → (b ≡ false) × (r ≡ Ok l)
not_first true f r l e = absurd (none_of f l e)
not_first false f r l e = (refl, e)

only_first : (b : Bool) (r : Result Leaf KeyFault) (f : KeyFault) (l : Leaf) → (if b then r else Err f) ≡ Ok l → (b ≡ true) × (r ≡ Ok l)
only_first true r f l e = (refl, e)
only_first false r f l e = absurd (none_of f l e)

-- ---- sets

set_case : (alphabet : Alphabet) (b : Bool) (s : CharacterSet) → IsLeaf alphabet (if b then leaf.Null else leaf.Set (set_ranges alphabet false s))
set_case alphabet true s = tt
set_case alphabet false s = ranges_form alphabet false s

pub set_form : (alphabet : Alphabet) (text : List ℕ) (l : Leaf) → set_leaf alphabet text ≡ Ok l → IsLeaf alphabet l
set_form alphabet text l e =
    let s = set_of (characters false (inside text)) in
    let k = not_first (set_is_reversed alphabet s) _ (Ok (character_set_leaf alphabet s)) l e in
    subst (IsLeaf alphabet) (same_leaf (character_set_leaf alphabet s) l k.1) (set_case alphabet (is_empty_word s) s)

-- ---- numbers and ranges

not_above : (lo hi : ℤ) → int_lt hi lo ≡ false → lo ≤ℤ hi
not_above lo hi h = grind (arith, ints)

same_key : (key : ℤ) → key ≤ℤ key
same_key key = omega (arith, ints)

pub key_form : (alphabet : Alphabet) (key : ℤ) (l : Leaf) → key_leaf alphabet key ≡ Ok l → IsLeaf alphabet l
key_form alphabet key l e =
    let k = only_first (has_key alphabet key) (Ok (leaf.Set (only key ∷ []))) _ l e in
    subst (IsLeaf alphabet) (same_leaf (leaf.Set (only key ∷ [])) l k.1) (tested_form alphabet key key k.0 (same_key key) k.0)

not_not : (b : Bool) → not b ≡ false → b ≡ true
not_not true h = refl
not_not false h = absurd (false≢true (sym h))

pub range_form : (alphabet : Alphabet) (lo hi : ℤ) (l : Leaf) → range_leaf alphabet lo hi ≡ Ok l → IsLeaf alphabet l
range_form alphabet lo hi l e =
    let a = not_first (not (has_key alphabet lo)) _ _ l e in
    let b = not_first (int_lt hi lo) _ _ l a.1 in
    let c = only_first (has_key alphabet hi) (Ok (leaf.Set (record { lo = lo; hi = hi } ∷ []))) _ l b.1 in
    subst (IsLeaf alphabet) (same_leaf (leaf.Set (record { lo = lo; hi = hi } ∷ [])) l c.1) (tested_form alphabet lo hi (not_not (has_key alphabet lo) a.0) (not_above lo hi b.0) c.0)

-- ---- regular expressions

abbrev RangesForm : Alphabet → Option (List Range) → Type 0
RangesForm alphabet o = MatchOption o (Unit {0}) (AreRanges alphabet)

set_ranges_form : (alphabet : Alphabet) (b folds : Bool) (s : CharacterSet) → RangesForm alphabet (if b then None else Some (set_ranges alphabet folds s))
set_ranges_form alphabet true folds s = tt
set_ranges_form alphabet false folds s = ranges_form alphabet folds s

named_form : (alphabet : Alphabet) (folds : Bool) (x : Named) → RangesForm alphabet (named_ranges alphabet folds x)
named_form alphabet folds (named.Character b) = character_form alphabet folds b
named_form alphabet folds (named.Set s) = set_ranges_form alphabet (is_empty_word s) folds s

regular_items_form : (alphabet : Alphabet) (folds : Bool) (xs : List RegularItem) → Each (IsItem alphabet) (map (item_of alphabet folds) xs)
regular_items_form alphabet folds [] = tt
regular_items_form alphabet folds (x ∷ xs) = (named_form alphabet folds x.names, regular_items_form alphabet folds xs)

items_leaf_form : (alphabet : Alphabet) (folds : Bool) (xs : List RegularItem) → IsLeaf alphabet (items_leaf alphabet folds xs)
items_leaf_form alphabet folds [] = tt
items_leaf_form alphabet folds (x ∷ xs) = all (IsItem alphabet) (map (item_of alphabet folds) (x ∷ xs)) (regular_items_form alphabet folds (x ∷ xs))

pub regular_form : (alphabet : Alphabet) (text : List ℕ) (l : Leaf) → regular_leaf alphabet text ≡ Ok l → IsLeaf alphabet l
regular_form alphabet text l e =
    let items = regular_items (characters_within text) in
    let k = not_first (list_any (item_is_reversed alphabet) items) _ (Ok (items_leaf alphabet (ignores_case text) items)) l e in
    subst (IsLeaf alphabet) (same_leaf (items_leaf alphabet (ignores_case text) items) l k.1)
    (items_leaf_form alphabet (ignores_case text) items)

-- ---- operands

told_ok : (place : Place) (r : Result Leaf KeyFault) (l : Leaf) → told_at place r ≡ Ok l → r ≡ Ok l
told_ok place (Ok x) l e = ap (λ z. Ok z) (same_ok x l e)
told_ok place (Err f) l e = absurd (err_or_ok _ l e)

told_between_ok : (low high : Place) (r : Result Leaf KeyFault) (l : Leaf) → told_between low high r ≡ Ok l → r ≡ Ok l
told_between_ok low high (Ok x) l e = ap (λ z. Ok z) (same_ok x l e)
told_between_ok low high (Err f) l e = absurd (err_or_ok _ l e)

layer_form : (alphabet : Alphabet) (x : Layer) (l : Leaf) → layer_leaf alphabet x ≡ Ok l → IsLeaf alphabet l
layer_form alphabet (operand.Literal w) l e = subst (IsLeaf alphabet) (same_ok (literal_leaf alphabet w.text) l e) (literal_form alphabet w.text)
layer_form alphabet (operand.Number n) l e =
    let i = ok_then (number_read n) (λ k. told_at (number_place n) (key_leaf alphabet k)) l e in
    key_form alphabet i.0 l (told_ok (number_place n) (key_leaf alphabet i.0) l i.2)
layer_form alphabet (operand.Range low dots high) l e =
    let i = ok_then (key_read alphabet low) (λ (lo : Key). and_then (key_read alphabet high) (λ (hi : Key). told_between (key_place low) (key_place high) (range_leaf alphabet lo.0 hi.0))) l e in
    let j = ok_then (key_read alphabet high) (λ (hi : Key). told_between (key_place low) (key_place high) (range_leaf alphabet i.0.0 hi.0)) l i.2 in
    range_form alphabet i.0.0 j.0.0 l (told_between_ok (key_place low) (key_place high) (range_leaf alphabet i.0.0 j.0.0) l j.2)
layer_form alphabet (operand.Set w) l e = set_form alphabet w.text l (told_ok w.place (set_leaf alphabet w.text) l e)
layer_form alphabet (operand.RegularExpression w) l e = regular_form alphabet w.text l (told_ok w.place (regular_leaf alphabet w.text) l e)
layer_form alphabet (operand.Name w) l e = subst (IsLeaf alphabet) (same_ok leaf.Null l e) tt
layer_form alphabet (operand.Group opening inner closing) l e = subst (IsLeaf alphabet) (same_ok leaf.Null l e) tt
layer_form alphabet (operand.Scanner s) l e = subst (IsLeaf alphabet) (same_ok leaf.Null l e) tt

-- a leaf that is read has its form
pub leaf_form : (alphabet : Alphabet) (o : Operand) (l : Leaf) → leaf_read alphabet o ≡ Ok l → IsLeaf alphabet l
leaf_form alphabet o l e = layer_form alphabet (out-Operand o) l e
