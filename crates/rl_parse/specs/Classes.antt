-- By what the rules of the grammar are told apart: the kind of a token, whether its text is the word `unsigned`, and
-- whether it is that of a literal of one character.
use Rattle.std.specs.Prelude.{Bool, codes}
use Rattle.std.specs.Str.{bytes_eq}
use Rattle.rl_readers.specs.Readers.{Symbols}
use Rattle.rl_grammar.specs.Lexeme.{Lexeme, lexeme}
use Rattle.rl_grammar.specs.Literals.{is_character}
use Rattle.rl_grammar.specs.declared.token.Token.{Token}
use Rattle.rl_grammar.specs.declared.token.TokenKind.{TokenKind}

pub record Class : Type 0 where
  pub kind : TokenKind
  pub unsigned : Bool
  pub key : Bool

abbrev pub class_of : Lexeme → Class
class_of l = record {
  kind = l.kind;
  unsigned = bytes_eq l.text (codes "unsigned");
  key = is_character l.text;
}

-- tokens, as readers take them
abbrev pub tokens : Symbols
tokens = record { Symbol = Token; Seen = Lexeme; Class = Class; seen = lexeme; class_of = class_of }
