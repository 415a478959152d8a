use Rattle.std.proofs.Common.{◌≡◌, ◌+◌, ◌≤◌, drop}
use Rattle.rl_model.specs.WellFormed.{outer_statements}
use Rattle.rl_form.proofs.statements.outer_statements.Given as goal

abbrev pub invariant-loop-s : goal.invariant-loop-s
invariant-loop-s l = (l.count ≤ l.s-index) × (outer_statements l.statements ≡ l.count + outer_statements (drop l.s-index l.statements))
