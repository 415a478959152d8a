use Rattle.std.proofs.Common.{◌↔◌, drop}
use Rattle.rl_statements.specs.Entries.{texts}
use Rattle.rl_statements.specs.Said.{IsSaid}
use Rattle.rl_statements.proofs.reading.are_statements.Given as goal

abbrev pub invariant-loop-s : goal.invariant-loop-s
invariant-loop-s l = IsSaid (texts l.entries) l.said l.statements ↔ IsSaid (texts l.entries) (drop l.s-index l.said) l.rest
