use Rattle.std.proofs.Common.{◌≡◌, ◌-◌}
use Rattle.rl_readers.specs.Readers.{many_from}
use Rattle.rl_parse.specs.Rules.{by_kind, negations, negation_sign, begins_negation}
use Rattle.rl_parse.proofs.parts.negations.Given as goal

abbrev pub invariant-loop-turn : goal.invariant-loop-turn
invariant-loop-turn l = negations l.fn.tokens ≡ many_from (by_kind begins_negation) negation_sign (l._turn-end - l._turn) l.found l.rest
