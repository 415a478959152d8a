-- Sets as they are written, character by character.
use Rattle.std.specs.Prelude.{◌≡◌, ◌↔◌, ◌⊎◌, ℕ, true, false, Some, None, List, [], ◌∷◌, ◌++◌}
use Rattle.rl_grammar.specs.declared.token.TokenKind.TheVariants as k
use Rattle.rl_grammar.specs.Literals.{inside}
use Rattle.rl_lexical.specs.declared.context.Context.{Context}
use Rattle.rl_lexical.specs.Bytes.{dash, open_bracket, close_bracket, caret}
use Rattle.rl_lexical.specs.Forms.{fault_of}
use Rattle.rl_lexical.specs.Fronts.{kind_of}
use Rattle.rl_leaves.specs.declared.text.Character.{Character}
use Rattle.rl_leaves.specs.declared.character_set.Span.{Span}
use Rattle.rl_leaves.specs.declared.character_set.CharacterSet.{CharacterSet}
use Rattle.rl_leaves.specs.Texts.{characters, is_plain, begins_with}
use Rattle.rl_leaves.specs.CharacterSets.{set_of}

-- a character that no backslash is before
abbrev pub plain : ℕ → Character
plain b = record { byte = b; is_escaped = false }

-- the characters write these things, one behind another
abbrev pub AreWritten : {X : Type 0} → (X → List Character → Type 0) → List X → List Character → Type 0
AreWritten IsWritten [] cs = cs ≡ []
AreWritten IsWritten (x ∷ xs) cs =
    (first : List Character) × (rest : List Character) × (cs ≡ first ++ rest) × IsWritten x first × AreWritten IsWritten xs rest

-- a character of a set: one behind a backslash, or one that is neither `-` nor `]`
pub record IsMember (c : Character) : Type 0 where
  pub not_dash : is_plain dash c ≡ false
  pub not_close : is_plain close_bracket c ≡ false

-- one character
pub record IsOne (span : Span) (cs : List Character) : Type 0 where
  pub character : Character
  pub written : cs ≡ character ∷ []
  pub member : IsMember character
  pub says : record { lower = character.byte; upper = character.byte } ≡ span

-- a range, `x-y`
pub record IsFromTo (span : Span) (cs : List Character) : Type 0 where
  pub lower : Character
  pub upper : Character
  pub written : cs ≡ lower ∷ plain dash ∷ upper ∷ []
  pub lower_member : IsMember lower
  pub upper_member : IsMember upper
  pub says : record { lower = lower.byte; upper = upper.byte } ≡ span

abbrev pub IsSpan : Span → List Character → Type 0
IsSpan span cs = IsOne span cs ⊎ IsFromTo span cs

-- behind a `^`
pub record IsNegated (set : CharacterSet) (cs : List Character) : Type 0 where
  pub spelled : List Character
  pub written : cs ≡ plain caret ∷ spelled
  pub spans : AreWritten IsSpan set.spans spelled
  pub negated : set.is_negated ≡ true

-- without a `^` in front
pub record IsPositive (set : CharacterSet) (cs : List Character) : Type 0 where
  pub front : begins_with caret cs ≡ false
  pub spans : AreWritten IsSpan set.spans cs
  pub negated : set.is_negated ≡ false

-- what stands between the brackets of a set
abbrev pub IsBody : CharacterSet → List Character → Type 0
IsBody set cs = IsNegated set cs ⊎ IsPositive set cs

-- a set with its brackets
pub record IsSet (set : CharacterSet) (cs : List Character) : Type 0 where
  pub between : List Character
  pub written : cs ≡ plain open_bracket ∷ between ++ plain close_bracket ∷ []
  pub body : IsBody set between

-- a text writes a set
abbrev pub WritesSet : List ℕ → CharacterSet → Type 0
WritesSet text set = IsSet set (characters false text)

-- a text writes one set at most
abbrev pub OneSet : Type 0
OneSet = (text : List ℕ) (s t : CharacterSet) → WritesSet text s → WritesSet text t → s ≡ t

-- the bytes behind a `[` end the token that it begins: with their first `]` that no backslash is before
abbrev pub IsSetToken : Context → List ℕ → List ℕ → Type 0
IsSetToken context rest bytes = kind_of context rest (open_bracket ∷ bytes) ≡ Some k.Set

-- such a token has no fault exactly where it writes a set
abbrev pub SetsAreTold : Type 0
SetsAreTold =
    (context : Context) (rest bytes : List ℕ) → IsSetToken context rest bytes
    → (fault_of k.Set (open_bracket ∷ bytes) ≡ None) ↔ ((set : CharacterSet) × WritesSet (open_bracket ∷ bytes) set)

-- the set that is read from a token is the one that it writes
abbrev pub SetsAreRead : Type 0
SetsAreRead =
    (context : Context) (rest bytes : List ℕ) → IsSetToken context rest bytes
    → (set : CharacterSet) → WritesSet (open_bracket ∷ bytes) set
    → set_of (characters false (inside (open_bracket ∷ bytes))) ≡ set
