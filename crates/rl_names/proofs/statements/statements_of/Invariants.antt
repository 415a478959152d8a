use Rattle.std.proofs.Common.{◌≡◌, ◌++◌, map, drop}
use Rattle.rl_code.specs.Reading.{statement_of, controls}
use Rattle.rl_names.specs.TableForms.{texts}
use Rattle.rl_names.proofs.statements.statements_of.Given as goal

abbrev pub invariant-loop-one : goal.invariant-loop-one
invariant-loop-one l =
    l.list ++ map (statement_of (texts l.entries)) (controls (drop l.one-index l.said)) ≡ map (statement_of (texts l.entries)) (controls l.said)
