-- The longest token that a text begins with.
use Rattle.std.specs.Prelude.{◌≡◌, ℕ, ◌<◌, ◌≤◌, Bool, false, true, ◌==◌, ◌+◌, if◌then◌else◌, List, length, take, drop, Option, Some, None, MatchOption}
use Rattle.rl_grammar.specs.declared.token.TokenKind.{TokenKind}
use Rattle.rl_lexical.specs.declared.context.Context.{Context}
use Rattle.rl_lexical.specs.declared.mode.Mode.{Mode}
use Rattle.rl_lexical.specs.declared.mode.Mode.TheVariants as m
use Rattle.rl_lexical.specs.Bytes.{letter_i, begins}
use Rattle.rl_lexical.specs.Fronts.{front_kind}
use Rattle.rl_lexical.specs.Modes.{mode_after, is_read}
use Rattle.rl_lexical.specs.Signs.{sign_before}
use Rattle.rl_lex.specs.Pieces.{depth_of}

-- the first n bytes of the text are a token of the kind, and no more bytes are one
pub record IsLongest (context : Context) (text : List ℕ) (kind : TokenKind) (n : ℕ) : Type 0 where
  pub some : 0 < n
  pub within : n ≤ length text
  pub is_token : front_kind context text n ≡ Some kind
  pub longest : (m : ℕ) → n < m → m ≤ length text → front_kind context text m ≡ None

-- no front of the text is a token
abbrev pub NoToken : Context → List ℕ → Type 0
NoToken context text = (m : ℕ) → m ≤ length text → front_kind context text m ≡ None

-- the longest token of a text and its length, or that the text begins with none
abbrev pub Finds : Context → List ℕ → Option (TokenKind × ℕ) → Type 0
Finds context text found = MatchOption found (NoToken context text) (λ x. IsLongest context text x.0 x.1)

-- n bytes make the mode another one in which the piece is read, and fewer bytes do not
pub record Closes (mode : Mode) (text : List ℕ) (end : Mode) (n : ℕ) : Type 0 where
  pub within : n ≤ length text
  pub after : mode_after mode (take n text) ≡ end
  pub reads : is_read end ≡ true
  pub first : (m : ℕ) → m < n → is_read (mode_after mode (take m text)) ≡ false

-- the piece is not read, whatever bytes of the text are taken
abbrev pub IsOpen : Mode → List ℕ → Type 0
IsOpen mode text = (m : ℕ) → m ≤ length text → is_read (mode_after mode (take m text)) ≡ false

abbrev pub FindsEnd : Mode → List ℕ → Option (Mode × ℕ) → Type 0
FindsEnd mode text found = MatchOption found (IsOpen mode text) (λ x. Closes mode text x.0 x.1)

-- an `i` follows that belongs to the piece
abbrev pub takes_suffix : Mode → List ℕ → Bool
takes_suffix m.Suffixable rest = begins (λ b. b == letter_i) rest
takes_suffix _ rest = false

-- the bytes of a piece behind its first, and of its suffix, or that it has no end
pub record IsPiece (mode : Mode) (text : List ℕ) (n : ℕ) : Type 0 where
  pub end : Mode
  pub before : ℕ
  pub closes : Closes mode text end before
  pub count : n ≡ (if takes_suffix end (drop before text) then before + 2 else before + 1)

abbrev pub FindsPiece : TokenKind → Mode → List ℕ → Option (TokenKind × ℕ) → Type 0
FindsPiece kind mode text found = MatchOption found (IsOpen mode text) (λ x. (x.0 ≡ kind) × IsPiece mode text x.1)

-- a piece is not read by less than n bytes, which make this mode
pub record IsReading (start : Mode) (text : List ℕ) (n : ℕ) (mode : Mode) : Type 0 where
  pub within : n ≤ length text
  pub after : mode_after start (take n text) ≡ mode
  pub before : (m : ℕ) → m < n → is_read (mode_after start (take m text)) ≡ false
  pub depth : depth_of mode ≤ n

-- no front of more than n bytes is a sign
abbrev pub NoLongerSign : Bool → List ℕ → ℕ → Type 0
NoLongerSign in_scanner text n = (m : ℕ) → n < m → m ≤ length text → sign_before in_scanner (drop m text) (take m text) ≡ None

-- the first n bytes are a sign of the kind, and no more bytes are one
pub record IsLongestSign (in_scanner : Bool) (text : List ℕ) (kind : TokenKind) (n : ℕ) : Type 0 where
  pub some : 0 < n
  pub within : n ≤ length text
  pub is_sign : sign_before in_scanner (drop n text) (take n text) ≡ Some kind
  pub longest : NoLongerSign in_scanner text n

abbrev pub FindsSign : Bool → List ℕ → Option (TokenKind × ℕ) → Type 0
FindsSign in_scanner text found = MatchOption found (NoLongerSign in_scanner text 0) (λ x. IsLongestSign in_scanner text x.0 x.1)
