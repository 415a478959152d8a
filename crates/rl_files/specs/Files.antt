-- What a file reads as: its parts, the tokens of its blocks and their syntax trees, with the number of the file in each
-- place. Each step is over the whole file before the next.
use Rattle.std.specs.Prelude.{◌≡◌, ◌⊎◌, ℕ, ◌<◌, ◌≤◌, List, [], ◌∷◌, length, Result, Ok, Err}
use Rattle.rl_types.specs.Limits.{most_source_bytes}
use Rattle.rl_types.specs.declared.faults.Fault.{Fault}
use Rattle.rl_types.specs.declared.faults.LimitKind.TheVariants.{L1}
use Rattle.rl_grammar.specs.Grammar.{Derives}
use Rattle.rl_grammar.specs.Refusals.{NoneBefore, IsRefused}
use Rattle.rl_grammar.specs.declared.read_fault.ReadFault.{ReadFault}
use Rattle.rl_grammar.specs.declared.read_fault.ReadFault.TheVariants as reason
use Rattle.rl_grammar.specs.declared.syntax.Syntax.{Syntax}
use Rattle.rl_grammar.specs.declared.token.Token.{Token}
use Rattle.rl_lexical.specs.Parts.{file_parts}
use Rattle.rl_lexical.specs.Tokens.{block_tokens}
use Rattle.rl_lexical.specs.declared.part.Part.{Part}
use Rattle.rl_lexical.specs.declared.part.Part.TheVariants as part
use Rattle.rl_files.specs.Results.{and_then}

-- ---- tokens

-- the tokens of each block among parts, or the first fault
abbrev pub tokens_of : List Part → Result (List (List Token)) Fault
tokens_of [] = Ok []
tokens_of (part.Host text ∷ parts) = tokens_of parts
tokens_of (part.Block block ∷ parts) = and_then (block_tokens block) (λ tokens. and_then (tokens_of parts) (λ others. Ok (tokens ∷ others)))

-- the tokens of each block of the file, or the first fault: of its parts, or else of its tokens
abbrev pub file_tokens : ℕ → List ℕ → Result (List (List Token)) Fault
file_tokens number text = and_then (file_parts number text) tokens_of

-- ---- trees

-- the tree that the tokens of a block spell, where no token decides a refusal
pub record IsTree (tokens : List Token) (tree : Syntax) : Type 0 where
  pub derived : Derives tree tokens
  pub unrefused : NoneBefore tokens (length tokens)

-- the trees of blocks, one for each
abbrev pub AreTrees : List (List Token) → List Syntax → Type 0
AreTrees [] [] = Unit {0}
AreTrees [] (tree ∷ trees) = ⊥
AreTrees (tokens ∷ blocks) [] = ⊥
AreTrees (tokens ∷ blocks) (tree ∷ trees) = IsTree tokens tree × AreTrees blocks trees

-- the first block that has no tree is refused, for this reason
abbrev pub FirstRefused : ReadFault → List (List Token) → Type 0
FirstRefused e [] = ⊥
FirstRefused e (tokens ∷ blocks) = IsRefused e tokens ⊎ ((tree : Syntax) × IsTree tokens tree × FirstRefused e blocks)

-- ---- a file

-- the file reads as these trees, one for each block
pub record ReadsAs (number : ℕ) (text : List ℕ) (trees : List Syntax) : Type 0 where
  pub within : length text ≤ most_source_bytes
  pub blocks : List (List Token)
  pub tokens : file_tokens number text ≡ Ok blocks
  pub derived : AreTrees blocks trees

-- ---- refusals

-- a file that is too long
abbrev pub too_long : ℕ → ReadFault
too_long number = reason.Limit (record { kind = L1; place = record { file = number; line = 1; col = 1 } })

pub record IsTooLong (number : ℕ) (text : List ℕ) (e : ReadFault) : Type 0 where
  pub beyond : most_source_bytes < length text
  pub is : e ≡ too_long number

-- parts or tokens that are at fault
pub record HasNoTokens (number : ℕ) (text : List ℕ) (e : ReadFault) : Type 0 where
  pub within : length text ≤ most_source_bytes
  pub fault : Fault
  pub tokens : file_tokens number text ≡ Err fault
  pub is : e ≡ reason.Fault fault

-- tokens that spell no tree
pub record HasNoTrees (number : ℕ) (text : List ℕ) (e : ReadFault) : Type 0 where
  pub within : length text ≤ most_source_bytes
  pub blocks : List (List Token)
  pub tokens : file_tokens number text ≡ Ok blocks
  pub refused : FirstRefused e blocks

-- the first refusal of a file
abbrev pub IsRefusal : ℕ → List ℕ → ReadFault → Type 0
IsRefusal number text e = IsTooLong number text e ⊎ HasNoTokens number text e ⊎ HasNoTrees number text e

-- why a file is not read: for its first refusal, or for want of memory
abbrev pub Explains : ℕ → List ℕ → ReadFault → Type 0
Explains number text (reason.Fault fault) = IsRefusal number text (reason.Fault fault)
Explains number text (reason.Limit limit) = IsRefusal number text (reason.Limit limit)
Explains number text reason.Memory = Unit {0}
