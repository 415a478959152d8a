-- The tokens of a block, or its first fault.
use Rattle.std.specs.Prelude.{◌≡◌, ◌+◌, ◌≤◌, ℕ, zero, suc, if◌then◌else◌, List, [], ◌∷◌, ◌++◌, length, take, drop, Option, Some, None, Result, Ok, Err}
use Rattle.std.specs.List.{prefix_len}
use Rattle.rl_types.specs.declared.faults.Fault.{Fault}
use Rattle.rl_types.specs.declared.faults.FaultKind.{FaultKind}
use Rattle.rl_types.specs.declared.faults.FaultKind.TheVariants as f
use Rattle.rl_grammar.specs.declared.token.Token.{Token}
use Rattle.rl_grammar.specs.declared.token.TokenKind.{TokenKind}
use Rattle.rl_grammar.specs.declared.token.TokenKind.TheVariants as k
use Rattle.rl_lexical.specs.declared.context.Context.{Context}
use Rattle.rl_lexical.specs.declared.position.Position.{Position}
use Rattle.rl_lexical.specs.Blocks.{SourceBlock, body_text}
use Rattle.rl_lexical.specs.Bytes.{is_blank, is_empty}
use Rattle.rl_lexical.specs.Contexts.{is_text, context_behind, first_context}
use Rattle.rl_lexical.specs.Forms.{fault_of}
use Rattle.rl_lexical.specs.Fronts.{token_in_front}
use Rattle.rl_lexical.specs.Gaps.{gap_len}
use Rattle.rl_lexical.specs.Places.{position_behind}

-- how many bytes stand before the next token: blanks and comments, and before the text of `access` or `variable` blanks
abbrev pub gap_before : Context → List ℕ → ℕ
gap_before context text = if is_text context.expected then prefix_len is_blank text else gap_len text

-- where the next token stands, and what is left there
abbrev pub next_position : Context → Position → List ℕ → Position
next_position context at text = position_behind at (take (gap_before context text) text)

abbrev pub next_text : Context → List ℕ → List ℕ
next_text context text = drop (gap_before context text) text

-- the end of a block, as a token
abbrev pub end_token : Position → Token
end_token at = record { kind = k.End; text = []; from = at.from; place = at.place }

-- a token, where nothing is wrong with it
abbrev pub checked : Position → TokenKind → List ℕ → Option FaultKind → Result Token Fault
checked at kind text None = Ok (record { kind = kind; text = text; from = at.from; place = at.place })
checked at kind text (Some fault) = Err (record { kind = fault; place = at.place })

abbrev pub token_or_fault : Position → List ℕ → Option (TokenKind × ℕ) → Result Token Fault
token_or_fault at text None = Err (record { kind = f.F1; place = at.place })
token_or_fault at text (Some found) = checked at found.0 (take found.1 text) (fault_of found.0 (take found.1 text))

-- the token that stands here, or its fault
abbrev pub token_at : Context → Position → List ℕ → Result Token Fault
token_at context at text = token_or_fault at text (token_in_front context text)

-- a token before others
abbrev pub before_others : Token → Result (List Token) Fault → Result (List Token) Fault
before_others token (Ok tokens) = Ok (token ∷ tokens)
before_others token (Err fault) = Err fault

abbrev pub then_others : Result Token Fault → (Token → Result (List Token) Fault) → Result (List Token) Fault
then_others (Ok token) others = before_others token (others token)
then_others (Err fault) others = Err fault

-- the tokens of a text that stands here, and its end. A text of n bytes has no more than n tokens.
unfoldable pub tokens_from : ℕ → Context → Position → List ℕ → Result (List Token) Fault
tokens_from zero context at text = Ok (end_token at ∷ [])
tokens_from (suc n) context at text =
    let here = next_position context at text in
    let rest = next_text context text in
    if is_empty rest then Ok (end_token here ∷ []) else
    then_others (token_at context here rest)
    (λ token. tokens_from n (context_behind context token.kind token.text) (position_behind here token.text) (drop (length token.text) rest))

-- the tokens of a block, or its first fault
abbrev pub block_tokens : SourceBlock → Result (List Token) Fault
block_tokens block = tokens_from (length (body_text block)) first_context block.body.at (body_text block)

-- ---- what tokens are to their text

-- blanks and comments, and nothing else
abbrev pub IsGap : List ℕ → Type 0
IsGap text = gap_len text ≡ length text

-- the token is the slice behind a gap of a text that stands at a position, and stands where its first byte does
pub record IsSlice (at : Position) (text : List ℕ) (gap : ℕ) (token : Token) : Type 0 where
  pub within : gap + length token.text ≤ length text
  pub gap_is : IsGap (take gap text)
  pub slice : token.text ≡ take (length token.text) (drop gap text)
  pub offset : token.from ≡ (position_behind at (take gap text)).from
  pub place : token.place ≡ (position_behind at (take gap text)).place

-- the tokens are slices in order, and all else of the text is blanks and comments
abbrev pub AreSlices : Position → List ℕ → List Token → Type 0
AreSlices at text [] = text ≡ []
AreSlices at text (t ∷ ts) =
    (gap : ℕ) × IsSlice at text gap t
    × AreSlices (position_behind (position_behind at (take gap text)) t.text) (drop (length t.text) (drop gap text)) ts

-- the last token is the end of a block, at a position
pub record EndsAt (at : Position) (tokens : List Token) : Type 0 where
  pub before : List Token
  pub is : tokens ≡ before ++ end_token at ∷ []
