use Rattle.std.proofs.Common.{◌≡◌, ◌-◌}
use Rattle.rl_readers.specs.Readers.{many_from}
use Rattle.rl_parse.specs.Rules.{by_kind, statements, one_statement, begins_statement}
use Rattle.rl_parse.proofs.statements.statements.Given as goal

abbrev pub invariant-loop-turn : goal.invariant-loop-turn
invariant-loop-turn l = statements l.fn.depth l.fn.tokens ≡ many_from (by_kind begins_statement) (one_statement l.fn.depth) (l._turn-end - l._turn) l.found l.rest
