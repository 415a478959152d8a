use Rattle.std.proofs.Common.{◌≡◌, ◌++◌, map, take}
use Rattle.rl_layout.specs.SpecArrays.{element_of}
use Rattle.rl_layout.proofs.statements.push_elements.Given as goal

abbrev pub invariant-loop-statement : goal.invariant-loop-statement
invariant-loop-statement l = l.elements.items ≡ l.initial.elements.items ++ map (element_of l.which) (take l.statement-index l.statements)
