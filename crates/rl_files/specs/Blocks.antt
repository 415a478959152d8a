-- What the parser asks of the tokens of a block.
use Rattle.std.specs.Prelude.{◌≡◌, true, List, [], ◌∷◌, ◌++◌, Result, Ok, Err}
use Rattle.std.specs.List.{All}
use Rattle.rl_arrays.specs.Names.{is_name}
use Rattle.rl_grammar.specs.Refusals.{ends_once, NumbersFit}
use Rattle.rl_grammar.specs.declared.read_fault.ReadFault.{ReadFault}
use Rattle.rl_grammar.specs.declared.read_fault.ReadFault.TheVariants as reason
use Rattle.rl_grammar.specs.declared.token.Token.{Token}
use Rattle.rl_grammar.specs.declared.token.TokenKind.TheVariants as k
use Rattle.rl_lexical.specs.Answers.{Explains}
use Rattle.rl_lexical.specs.Tokens.{block_tokens}
use Rattle.rl_lexical.specs.declared.part.Part.{Part}
use Rattle.rl_lexical.specs.declared.part.Part.TheVariants as part
use Rattle.rl_files.specs.Files.{FirstRefused}

-- the last token, and no other, is the end; integers fit 64 bits with a sign; names are names
pub record AreTokens (tokens : List Token) : Type 0 where
  pub ended : ends_once tokens ≡ true
  pub numbers : NumbersFit tokens
  pub names : All (λ t. t.kind ≡ k.Name → is_name t.text ≡ true) tokens

-- the same of each block
abbrev pub AllTokens : List (List Token) → Type 0
AllTokens [] = Unit {0}
AllTokens (tokens ∷ blocks) = AreTokens tokens × AllTokens blocks

-- the tokens of a part are put to those of the parts before it, or its first fault is told
abbrev pub Puts : Part → List (List Token) → Result (Unit {0}) ReadFault → List (List Token) → Type 0
Puts (part.Host text) found (Ok done) behind = behind ≡ found
Puts (part.Host text) found (Err e) behind = ⊥
Puts (part.Block block) found (Ok done) behind = (tokens : List Token) × (block_tokens block ≡ Ok tokens) × (behind ≡ found ++ tokens ∷ [])
Puts (part.Block block) found (Err e) behind = Explains (block_tokens block) e

-- why blocks have no trees: the first that has none is refused, or for want of memory
abbrev pub TellsFirst : ReadFault → List (List Token) → Type 0
TellsFirst (reason.Fault fault) blocks = FirstRefused (reason.Fault fault) blocks
TellsFirst (reason.Limit limit) blocks = FirstRefused (reason.Limit limit) blocks
TellsFirst reason.Memory blocks = Unit {0}
