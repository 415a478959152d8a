-- Regular expressions as they are written, character by character.
use Rattle.std.specs.Prelude.{◌≡◌, ◌↔◌, ◌⊎◌, ℕ, Bool, false, if◌then◌else◌, Some, None, List, [], ◌∷◌, ◌++◌}
use Rattle.rl_grammar.specs.declared.token.TokenKind.TheVariants as k
use Rattle.rl_lexical.specs.declared.context.Context.{Context}
use Rattle.rl_lexical.specs.Bytes.{newline, star, slash, open_bracket, letter_i}
use Rattle.rl_lexical.specs.Forms.{fault_of}
use Rattle.rl_lexical.specs.Fronts.{kind_of}
use Rattle.rl_leaves.specs.declared.text.Character.{Character}
use Rattle.rl_leaves.specs.declared.regular_item.Named.{Named}
use Rattle.rl_leaves.specs.declared.regular_item.Named.TheVariants as named
use Rattle.rl_leaves.specs.declared.regular_item.RegularItem.{RegularItem}
use Rattle.rl_leaves.specs.declared.character_set.CharacterSet.{CharacterSet}
use Rattle.rl_leaves.specs.Texts.{characters, characters_within, ignores_case, is_plain}
use Rattle.rl_leaves.specs.CharacterSets.{every_character}
use Rattle.rl_leaves.specs.RegularExpressions.{regular_items}
use Rattle.rl_laws.specs.Written.{plain, AreWritten, IsSet}

abbrev pub dot : ℕ
dot = 46

-- a character that stands for itself: one behind a backslash, or one that is no sign and no end of a line
pub record IsOrdinary (c : Character) : Type 0 where
  pub not_slash : is_plain slash c ≡ false
  pub not_star : is_plain star c ≡ false
  pub not_newline : is_plain newline c ≡ false
  pub not_bracket : is_plain open_bracket c ≡ false
  pub not_dot : is_plain dot c ≡ false

-- one character
pub record IsCharacter (names : Named) (cs : List Character) : Type 0 where
  pub character : Character
  pub written : cs ≡ character ∷ []
  pub ordinary : IsOrdinary character
  pub says : named.Character character.byte ≡ names

-- any character, `.`
pub record IsAny (names : Named) (cs : List Character) : Type 0 where
  pub written : cs ≡ plain dot ∷ []
  pub says : named.Set every_character ≡ names

-- a set with its brackets
pub record IsOfSet (names : Named) (cs : List Character) : Type 0 where
  pub set : CharacterSet
  pub written : IsSet set cs
  pub says : named.Set set ≡ names

abbrev pub IsNamed : Named → List Character → Type 0
IsNamed names cs = IsCharacter names cs ⊎ (IsAny names cs ⊎ IsOfSet names cs)

-- with a `*` behind it, or without
pub record IsItem (item : RegularItem) (cs : List Character) : Type 0 where
  pub front : List Character
  pub written : cs ≡ front ++ (if item.is_starred then plain star ∷ [] else [])
  pub names : IsNamed item.names front

-- items between slashes, with an `i` behind them where case is ignored, or without
pub record IsRegular (items : List RegularItem) (folds : Bool) (cs : List Character) : Type 0 where
  pub between : List Character
  pub written : cs ≡ plain slash ∷ between ++ plain slash ∷ (if folds then plain letter_i ∷ [] else [])
  pub are : AreWritten IsItem items between

-- a text writes a regular expression
abbrev pub WritesRegular : List ℕ → List RegularItem → Bool → Type 0
WritesRegular text items folds = IsRegular items folds (characters false text)

-- a text writes one at most
abbrev pub OneRegular : Type 0
OneRegular =
    (text : List ℕ) (xs ys : List RegularItem) (f g : Bool) → WritesRegular text xs f → WritesRegular text ys g → (xs ≡ ys) × (f ≡ g)

-- a text behind a slash has no fault exactly where it writes one with this slash
abbrev pub RegularsAreTold : Type 0
RegularsAreTold =
    (bytes : List ℕ)
    → (fault_of k.RegularExpression (slash ∷ bytes) ≡ None)
    ↔ ((items : List RegularItem) × (folds : Bool) × WritesRegular (slash ∷ bytes) items folds)

-- what is read from a token is the regular expression that it writes
abbrev pub RegularsAreRead : Type 0
RegularsAreRead =
    (context : Context) (rest bytes : List ℕ) → kind_of context rest (slash ∷ bytes) ≡ Some k.RegularExpression
    → (items : List RegularItem) (folds : Bool) → WritesRegular (slash ∷ bytes) items folds
    → (regular_items (characters_within (slash ∷ bytes)) ≡ items) × (ignores_case (slash ∷ bytes) ≡ folds)
