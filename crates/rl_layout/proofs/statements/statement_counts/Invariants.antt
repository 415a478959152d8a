use Rattle.std.proofs.Common.{◌≡◌, map, take, length}
use Rattle.rl_layout.specs.SpecArrays.{statements_of}
use Rattle.rl_layout.proofs.statements.statement_counts.Given as goal

abbrev pub invariant-loop-action : goal.invariant-loop-action
invariant-loop-action l = l.counts.items ≡ map (λ a. length (statements_of l.actions a)) (take l.action-index l.order)
