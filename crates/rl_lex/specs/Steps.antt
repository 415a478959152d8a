-- The steps of the readers.
use Rattle.std.specs.Prelude.{◌≡◌, ℕ, ◌+◌, ◌≤◌, true, false, List, ◌++◌, length, drop, Result, Ok, Err}
use Rattle.rl_types.specs.declared.faults.Fault.{Fault}
use Rattle.rl_grammar.specs.declared.read_fault.ReadFault.{ReadFault}
use Rattle.rl_grammar.specs.declared.token.Token.{Token}
use Rattle.rl_lexical.specs.declared.context.Context.{Context}
use Rattle.rl_lexical.specs.declared.position.Position.{Position}
use Rattle.rl_lexical.specs.Answers.{Explains}
use Rattle.rl_lexical.specs.Bytes.{is_empty}
use Rattle.rl_lexical.specs.Contexts.{context_behind}
use Rattle.rl_lexical.specs.Places.{position_behind}
use Rattle.rl_lexical.specs.Tokens.{next_position, next_text, token_at}
use Rattle.rl_lex.specs.declared.reader.After.{After}
use Rattle.rl_lex.specs.declared.reader.Next.{Next}
use Rattle.rl_lex.specs.declared.reader.Next.TheVariants as n
use Rattle.rl_lex.specs.Room.{HasRoom}

-- a position and a text are those behind the gap
pub record IsAtNext (context : Context) (at : Position) (text : List ℕ) (here : Position) (rest : List ℕ) : Type 0 where
  pub position : here ≡ next_position context at text
  pub rest_is : rest ≡ next_text context text
  pub shorter : length rest ≤ length text
  pub offset : here.from + length rest ≡ at.from + length text
  pub forward : at.from ≤ here.from
  pub room : HasRoom here (length rest)

-- what is behind a token of a text
pub record IsPassed (context : Context) (here : Position) (text : List ℕ) (token : Token) (x : After) : Type 0 where
  pub token_is : x.token ≡ token
  pub context_is : x.context ≡ context_behind context token.kind token.text
  pub position : x.at ≡ position_behind here token.text
  pub rest_is : x.rest.now ≡ drop (length token.text) text
  pub room : HasRoom x.at (length x.rest.now)

-- the block ends, or a token stands there with what is behind it, or the reason why none does
abbrev pub IsNext : Context → Position → List ℕ → Result Next ReadFault → Type 0
IsNext context at text (Ok (n.End here)) = (here ≡ next_position context at text) × (is_empty (next_text context text) ≡ true)
IsNext context at text (Ok (n.Token x)) =
    (is_empty (next_text context text) ≡ false) × (token_at context (next_position context at text) (next_text context text) ≡ Ok x.token)
    × IsPassed context (next_position context at text) (next_text context text) x.token x
IsNext context at text (Err e) = (is_empty (next_text context text) ≡ false) × Explains (token_at context (next_position context at text) (next_text context text)) e

-- tokens before those of an answer
abbrev pub joined : List Token → Result (List Token) Fault → Result (List Token) Fault
joined found (Ok tokens) = Ok (found ++ tokens)
joined found (Err fault) = Err fault
