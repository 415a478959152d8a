-- Literals (the guide's section 2.3).
use Rattle.std.specs.Prelude.{ℕ, Bool, false, Some, List, [], ◌∷◌, map}
use Rattle.rl_types.specs.declared.alphabet.Alphabet.{Alphabet}
use Rattle.rl_draft.specs.declared.expression.Item.{Item}
use Rattle.rl_draft.specs.declared.expression.Leaf.{Leaf}
use Rattle.rl_draft.specs.declared.expression.Leaf.TheVariants as leaf
use Rattle.rl_leaves.specs.declared.text.Character.{Character}
use Rattle.rl_leaves.specs.Texts.{characters_within, ignores_case}
use Rattle.rl_leaves.specs.Ranges.{character_ranges}

abbrev pub character_item : Alphabet → Bool → Character → Item
character_item alphabet folds c = record { ranges = Some (character_ranges alphabet folds c.byte); starred = false }

-- no character is the empty word, one is a set, more are a row
abbrev pub characters_leaf : Alphabet → Bool → List Character → Leaf
characters_leaf alphabet folds [] = leaf.Null
characters_leaf alphabet folds (c ∷ []) = leaf.Set (character_ranges alphabet folds c.byte)
characters_leaf alphabet folds (c ∷ d ∷ cs) = leaf.Row (map (character_item alphabet folds) (c ∷ d ∷ cs))

-- what a literal says
abbrev pub literal_leaf : Alphabet → List ℕ → Leaf
literal_leaf alphabet text = characters_leaf alphabet (ignores_case text) (characters_within text)
