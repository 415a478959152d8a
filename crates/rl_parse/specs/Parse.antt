-- What each refusal of the grammar says.
use Rattle.std.specs.Prelude.{◌≡◌, ◌<◌, ℕ, List, length, Some}
use Rattle.rl_grammar.specs.Grammar.{Begins, Derives, IsFault}
use Rattle.rl_grammar.specs.Refusals.{refusal_at, NoneBefore}
use Rattle.rl_grammar.specs.declared.read_fault.ReadFault.{ReadFault}
use Rattle.rl_grammar.specs.declared.syntax.Syntax.{Syntax}
use Rattle.rl_grammar.specs.declared.token.Token.{Token}
use Rattle.rl_parse.specs.declared.sentence.SentenceError.{SentenceError}
use Rattle.rl_parse.specs.declared.sentence.SentenceError.TheVariants.{Memory, Fault, Unfinished}

-- the tokens begin a sentence and are none
pub record IsUnfinished (tokens : List Token) : Type 0 where
  pub begins : Begins tokens
  pub no_tree : (s : Syntax) → Derives s tokens → ⊥

abbrev pub Explains : SentenceError → List Token → Type 0
Explains Memory tokens = Unit {0}
Explains (Fault at) tokens = IsFault tokens at
Explains Unfinished tokens = IsUnfinished tokens

-- the token at the index is the first that decides something beside the grammar, and decides this
pub record IsFirst (e : ReadFault) (ts : List Token) (at : ℕ) : Type 0 where
  pub within : at < length ts
  pub here : refusal_at ts at ≡ Some e
  pub first : NoneBefore ts at
