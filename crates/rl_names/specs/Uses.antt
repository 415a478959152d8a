-- What the parts of an expression use, in text order.
use Rattle.rl_grammar.specs.declared.syntax.ConcatenationPart.{ConcatenationPart, out-ConcatenationPart}
use Rattle.rl_grammar.specs.declared.syntax.UnionPart.{UnionPart, out-UnionPart}
use Rattle.rl_names.specs.Events.{Found, embedded_events, concatenation_events}

abbrev pub concatenation_part_uses : ConcatenationPart → Found
concatenation_part_uses p = embedded_events (out-ConcatenationPart p).operand

abbrev pub union_part_uses : UnionPart → Found
union_part_uses p = concatenation_events (out-UnionPart p).operand
