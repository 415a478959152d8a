use Rattle.std.proofs.Common.{◌≡◌, drop}
use Rattle.rl_names.specs.Answers.{each}
use Rattle.rl_names.specs.Levels.{concatenation_part_read, union_part_read}
use Rattle.rl_names.specs.Scopes.{kept}
use Rattle.rl_names.proofs.ResultLaws.{behind}
use Rattle.rl_names.proofs.expressions.+expressions.Given as goal

abbrev pub invariant-concatenation_parts-loop-part : goal.invariant-concatenation_parts-loop-part
invariant-concatenation_parts-loop-part l =
    behind l.links (each (concatenation_part_read (kept l.scope)) (drop l.part-index l.parts)) ≡ each (concatenation_part_read (kept l.scope)) l.parts

abbrev pub invariant-union_parts-loop-part : goal.invariant-union_parts-loop-part
invariant-union_parts-loop-part l = behind l.links (each (union_part_read (kept l.scope)) (drop l.part-index l.parts)) ≡ each (union_part_read (kept l.scope)) l.parts
