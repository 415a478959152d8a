-- What the grammar sees of a token: its kind, its place, and the text of a token that stands for its text.
use Rattle.std.specs.Prelude.{ℕ, Bool, List, [], map, Option, Some, None}
use denote.Enum.Bare.{sameb}
use Rattle.rl_grammar.specs.contracts.token.TokenKind.{the_type}
use Rattle.rl_types.specs.declared.numbers.Place.{Place}
use Rattle.rl_grammar.specs.Marks.{mark_of, mark_text}
use Rattle.rl_grammar.specs.declared.syntax.StateClass.{StateClass}
use Rattle.rl_grammar.specs.declared.syntax.StateKind.{StateKind}
use Rattle.rl_grammar.specs.declared.token.Token.{Token}
use Rattle.rl_grammar.specs.declared.token.TokenKind.{TokenKind}
use Rattle.rl_grammar.specs.declared.token.TokenKind.TheVariants as k

pub record Lexeme : Type 0 where
  pub kind : TokenKind
  pub text : List ℕ
  pub place : Place

-- a mark in its short form, whichever it has
abbrev pub short_form : Option (StateClass × StateKind) → List ℕ → List ℕ
short_form None text = text
short_form (Some m) text = mark_text m.0 m.1

-- the text of a token that stands for its text; a sign or a word of its own kind is told by its kind
abbrev pub carried : TokenKind → List ℕ → List ℕ
carried k.Name text = text
carried k.Integer text = text
carried k.Literal text = text
carried k.Set text = text
carried k.RegularExpression text = text
carried k.Code text = text
carried k.Text text = text
carried k.Mark text = short_form (mark_of text) text
carried _ text = []

abbrev pub lexeme : Token → Lexeme
lexeme t = record { kind = t.kind; text = carried t.kind t.text; place = t.place }

abbrev pub lexemes : List Token → List Lexeme
lexemes ts = map lexeme ts

-- `==` on kinds
unfoldable pub same_kind : TokenKind → TokenKind → Bool
same_kind = sameb the_type
