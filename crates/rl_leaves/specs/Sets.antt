-- Sets, `[..]` (the guide's section 2.3).
use Rattle.std.specs.Prelude.{ℕ, false, if◌then◌else◌, List, Result, Ok, Err}
use Rattle.rl_types.specs.declared.alphabet.Alphabet.{Alphabet}
use Rattle.rl_draft.specs.declared.expression.Leaf.{Leaf}
use Rattle.rl_draft.specs.declared.expression.Leaf.TheVariants as leaf
use Rattle.rl_grammar.specs.Literals.{inside}
use Rattle.rl_leaves.specs.declared.character_set.CharacterSet.{CharacterSet}
use Rattle.rl_leaves.specs.declared.fault.KeyFault.{KeyFault}
use Rattle.rl_leaves.specs.declared.fault.KeyFault.TheVariants as fault
use Rattle.rl_leaves.specs.Texts.{characters}
use Rattle.rl_leaves.specs.CharacterSets.{set_of, set_is_reversed, is_empty_word}
use Rattle.rl_leaves.specs.Ranges.{set_ranges}

-- `[]` is the empty word, any other set one character
abbrev pub character_set_leaf : Alphabet → CharacterSet → Leaf
character_set_leaf alphabet s = if is_empty_word s then leaf.Null else leaf.Set (set_ranges alphabet false s)

abbrev pub checked : Alphabet → CharacterSet → Result Leaf KeyFault
checked alphabet s = if set_is_reversed alphabet s then Err fault.Reversed else Ok (character_set_leaf alphabet s)

-- what a set says
abbrev pub set_leaf : Alphabet → List ℕ → Result Leaf KeyFault
set_leaf alphabet text = checked alphabet (set_of (characters false (inside text)))
