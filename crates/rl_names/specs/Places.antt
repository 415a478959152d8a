-- Where constructs begin.
use Rattle.std.specs.Prelude.{Option, Some, None, List, [], ◌∷◌}
use Rattle.rl_types.specs.declared.numbers.Place.{Place}
use Rattle.rl_grammar.specs.declared.syntax.Key.{Key}
use Rattle.rl_grammar.specs.declared.syntax.Key.TheVariants as key
use Rattle.rl_grammar.specs.declared.syntax.Negation.{Negation}
use Rattle.rl_grammar.specs.declared.syntax.Negation.TheVariants as negation
use Rattle.rl_grammar.specs.declared.syntax.Concatenation.{Concatenation, out-Concatenation}
use Rattle.rl_grammar.specs.declared.syntax.Embedded.{Embedded, out-Embedded}
use Rattle.rl_grammar.specs.declared.syntax.Negated.{Negated, out-Negated}
use Rattle.rl_grammar.specs.declared.syntax.Number.{Number}
use Rattle.rl_grammar.specs.declared.syntax.Operand.{Operand, out-Operand}
use Rattle.rl_grammar.specs.declared.syntax.Operand.TheOpen as operand
use Rattle.rl_grammar.specs.declared.syntax.Repeated.{Repeated, out-Repeated}
use Rattle.rl_grammar.specs.declared.syntax.Scanner.{out-Scanner}
use Rattle.rl_grammar.specs.declared.syntax.Union.{Union, out-Union}
use Rattle.rl_names.specs.Values.{Layer}

abbrev pub place_or : Option Place → Place → Place
place_or (Some first) other = first
place_or None other = other

-- a number begins with its `-`
abbrev pub number_place : Number → Place
number_place n = place_or n.minus n.digits.place

abbrev pub key_place : Key → Place
key_place (key.Number n) = number_place n
key_place (key.Character w) = w.place

abbrev pub negation_place : Negation → Place
negation_place (negation.Language place) = place
negation_place (negation.Character place) = place

-- the first of negations, or what stands behind them
abbrev pub front : List Negation → Place → Place
front [] place = place
front (n ∷ ns) place = negation_place n

-- ---- the place of the first token, which may be a parenthesis

abbrev pub layer_place : Layer → Place
layer_place (operand.Literal w) = w.place
layer_place (operand.Number n) = number_place n
layer_place (operand.Range low dots high) = key_place low
layer_place (operand.Set w) = w.place
layer_place (operand.RegularExpression w) = w.place
layer_place (operand.Name w) = w.place
layer_place (operand.Group opening inner closing) = opening
layer_place (operand.Scanner s) = (out-Scanner s).opening

abbrev pub operand_place : Operand → Place
operand_place o = layer_place (out-Operand o)

abbrev pub negated_place : Negated → Place
negated_place n = front (out-Negated n).negations (operand_place (out-Negated n).operand)

abbrev pub repeated_place : Repeated → Place
repeated_place r = negated_place (out-Repeated r).operand

abbrev pub embedded_place : Embedded → Place
embedded_place e = repeated_place (out-Embedded e).operand

abbrev pub concatenation_place : Concatenation → Place
concatenation_place c = embedded_place (out-Concatenation c).first

abbrev pub union_place : Union → Place
union_place u = concatenation_place (out-Union u).first
