-- What a definition gives its name to: an expression, or the patterns of a scanner.
use Rattle.std.specs.Prelude.{List, [], ◌∷◌, Option, Some, None}
use Rattle.rl_grammar.specs.declared.syntax.Concatenation.{Concatenation, out-Concatenation}
use Rattle.rl_grammar.specs.declared.syntax.ConcatenationPart.{ConcatenationPart}
use Rattle.rl_grammar.specs.declared.syntax.Embedded.{Embedded, out-Embedded}
use Rattle.rl_grammar.specs.declared.syntax.Negated.{Negated, out-Negated}
use Rattle.rl_grammar.specs.declared.syntax.Operand.{Operand, out-Operand}
use Rattle.rl_grammar.specs.declared.syntax.Operand.TheOpen.{Operand-F}
use Rattle.rl_grammar.specs.declared.syntax.Operand.TheOpen as operand
use Rattle.rl_grammar.specs.declared.syntax.Pattern.{Pattern}
use Rattle.rl_grammar.specs.declared.syntax.Repeated.{Repeated, out-Repeated}
use Rattle.rl_grammar.specs.declared.syntax.Scanner.{Scanner}
use Rattle.rl_grammar.specs.declared.syntax.Union.{Union, out-Union}
use Rattle.rl_grammar.specs.declared.syntax.UnionPart.{UnionPart}

-- one level of an operand
abbrev pub Layer : Type 0
Layer = Operand-F Operand Concatenation ConcatenationPart Embedded Negated Pattern Repeated Scanner Union UnionPart

-- nothing stands beside it
abbrev pub alone : {A B : Type 0} → List A → Option B → Option B
alone [] found = found
alone (x ∷ xs) found = None

abbrev pub layer_scanner : Layer → Option Scanner
layer_scanner (operand.Literal w) = None
layer_scanner (operand.Number n) = None
layer_scanner (operand.Range low dots high) = None
layer_scanner (operand.Set w) = None
layer_scanner (operand.RegularExpression w) = None
layer_scanner (operand.Name w) = None
layer_scanner (operand.Group opening inner closing) = None
layer_scanner (operand.Scanner s) = Some s

abbrev pub operand_scanner : Operand → Option Scanner
operand_scanner o = layer_scanner (out-Operand o)

abbrev pub negated_scanner : Negated → Option Scanner
negated_scanner n = alone (out-Negated n).negations (operand_scanner (out-Negated n).operand)

abbrev pub repeated_scanner : Repeated → Option Scanner
repeated_scanner r = alone (out-Repeated r).repetitions (negated_scanner (out-Repeated r).operand)

abbrev pub embedded_scanner : Embedded → Option Scanner
embedded_scanner e = alone (out-Embedded e).embeddings (repeated_scanner (out-Embedded e).operand)

abbrev pub concatenation_scanner : Concatenation → Option Scanner
concatenation_scanner c = alone (out-Concatenation c).rest (embedded_scanner (out-Concatenation c).first)

-- the scanner that is the whole of an expression, without parentheses
abbrev pub scanner_of : Union → Option Scanner
scanner_of u = alone (out-Union u).rest (concatenation_scanner (out-Union u).first)
