-- What further operands are read as.
use Rattle.std.specs.Prelude.{Result, Ok}
use Rattle.rl_grammar.specs.declared.read_fault.ReadFault.{ReadFault}
use Rattle.rl_grammar.specs.declared.syntax.ConcatenationPart.{ConcatenationPart, out-ConcatenationPart}
use Rattle.rl_grammar.specs.declared.syntax.UnionPart.{UnionPart, out-UnionPart}
use Rattle.rl_draft.specs.declared.expression.Link.{Link}
use Rattle.rl_names.specs.Answers.{and_then}
use Rattle.rl_names.specs.Expressions.{Scope, embedded_told, concatenation_told, link, joined_by, united_by}

abbrev pub concatenation_part_read : Scope → ConcatenationPart → Result Link ReadFault
concatenation_part_read k p = and_then (embedded_told k (out-ConcatenationPart p).operand).read (λ e. Ok (link (joined_by (out-ConcatenationPart p).sign) e))

abbrev pub union_part_read : Scope → UnionPart → Result Link ReadFault
union_part_read k p = and_then (concatenation_told k (out-UnionPart p).operand).read (λ e. Ok (link (united_by (out-UnionPart p).sign) e))
