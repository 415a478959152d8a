-- What tokens say of the token behind them.
use Rattle.std.specs.Prelude.{ℕ, Bool, true, false, if◌then◌else◌, List}
use Rattle.rl_grammar.specs.declared.token.TokenKind.{TokenKind}
use Rattle.rl_grammar.specs.declared.token.TokenKind.TheVariants as k
use Rattle.rl_lexical.specs.declared.context.Context.{Context}
use Rattle.rl_lexical.specs.declared.context.Expected.{Expected}
use Rattle.rl_lexical.specs.declared.context.Expected.TheVariants as e
use Rattle.rl_lexical.specs.Words.{is_variable}

-- a text stands here
abbrev pub is_text : Expected → Bool
is_text e.Text = true
is_text _ = false

-- a `{` begins code here
abbrev pub is_code : Expected → Bool
is_code e.Code = true
is_code _ = false

-- behind a name
abbrev pub expected_behind_name : Expected → List ℕ → Expected
expected_behind_name e.ActionName text = e.Code
expected_behind_name e.VariableName text = if is_variable text then e.Text else e.Any
expected_behind_name _ text = e.Any

-- behind a token of a kind
abbrev pub expected_behind : Expected → TokenKind → List ℕ → Expected
expected_behind expected k.Name text = expected_behind_name expected text
expected_behind expected k.Action text = e.ActionName
expected_behind expected k.Arrow text = e.Code
expected_behind expected k.When text = e.Code
expected_behind expected k.Greater text = e.Code
expected_behind expected k.At text = e.Code
expected_behind expected k.Dollar text = e.Code
expected_behind expected k.Percent text = e.Code
expected_behind expected k.Mark text = e.Code
expected_behind expected k.Access text = e.Text
expected_behind expected k.Variable text = e.VariableName
expected_behind expected _ text = e.Any

-- in a scanner from its first sign to its last
abbrev pub in_scanner_behind : Bool → TokenKind → Bool
in_scanner_behind in_scanner k.OpenScanner = true
in_scanner_behind in_scanner k.CloseScanner = false
in_scanner_behind in_scanner _ = in_scanner

abbrev pub context_behind : Context → TokenKind → List ℕ → Context
context_behind context kind text = record {
  in_scanner = in_scanner_behind context.in_scanner kind;
  expected = expected_behind context.expected kind text;
}

-- at the beginning of a block
abbrev pub first_context : Context
first_context = record { in_scanner = false; expected = e.Any }

-- behind a byte that begins no token
abbrev pub context_behind_stray : Context → Context
context_behind_stray context = record { in_scanner = context.in_scanner; expected = e.Any }
