use Rattle.std.proofs.Common.{map, take}
use Rattle.rl_model.specs.Specification.{pattern_of}
use Rattle.rl_build.specs.Patterns.{IsRow}
use Rattle.rl_build.proofs.patterns.row_of.Given as goal

abbrev pub invariant-loop-pattern : goal.invariant-loop-pattern
invariant-loop-pattern l = IsRow l.alphabet (map pattern_of (take l.pattern-index l.patterns)) l.row
