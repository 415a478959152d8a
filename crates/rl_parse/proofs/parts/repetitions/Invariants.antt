use Rattle.std.proofs.Common.{◌≡◌, ◌-◌}
use Rattle.rl_readers.specs.Readers.{many_from}
use Rattle.rl_parse.specs.Rules.{by_kind, repetitions, one_repetition, begins_repetition}
use Rattle.rl_parse.proofs.parts.repetitions.Given as goal

abbrev pub invariant-loop-turn : goal.invariant-loop-turn
invariant-loop-turn l = repetitions l.fn.tokens ≡ many_from (by_kind begins_repetition) one_repetition (l._turn-end - l._turn) l.found l.rest
