use Rattle.std.proofs.Common.{◌≡◌, ◌-◌}
use Rattle.rl_readers.specs.Readers.{many_from}
use Rattle.rl_parse.specs.Rules.{by_kind, write_options, write_option, is_name}
use Rattle.rl_parse.proofs.statements.write_options.Given as goal

abbrev pub invariant-loop-turn : goal.invariant-loop-turn
invariant-loop-turn l = write_options l.fn.tokens ≡ many_from (by_kind is_name) write_option (l._turn-end - l._turn) l.found l.rest
