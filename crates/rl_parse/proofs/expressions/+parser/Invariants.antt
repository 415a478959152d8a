-- Each call goes down the rules of one depth, and one inside parentheses or a scanner to the depth below.
use Rattle.std.proofs.Common.{◌≡◌, ◌+◌, ◌-◌, ◌*◌}
use Rattle.rl_readers.specs.Readers.{many_from}
use Rattle.rl_parse.specs.Rules.{nested, by_kind, patterns, pattern, begins_expression, concatenation_parts, concatenation_part, begins_concatenation_part, union_parts, union_part, begins_union_part}
use Rattle.rl_parse.proofs.expressions.+parser.Given as goal

abbrev pub decreases-inner : goal.decreases-inner
decreases-inner l = 18 * l.depth + 0

abbrev pub decreases-group : goal.decreases-group
decreases-group l = 18 * l.depth + 1

abbrev pub decreases-pattern : goal.decreases-pattern
decreases-pattern l = 18 * l.depth + 2

abbrev pub decreases-patterns : goal.decreases-patterns
decreases-patterns l = 18 * l.depth + 3

abbrev pub decreases-scanner : goal.decreases-scanner
decreases-scanner l = 18 * l.depth + 4

abbrev pub decreases-other_operand : goal.decreases-other_operand
decreases-other_operand l = 18 * l.depth + 5

abbrev pub decreases-operand : goal.decreases-operand
decreases-operand l = 18 * l.depth + 6

abbrev pub decreases-negated : goal.decreases-negated
decreases-negated l = 18 * l.depth + 7

abbrev pub decreases-repeated : goal.decreases-repeated
decreases-repeated l = 18 * l.depth + 8

abbrev pub decreases-embedded : goal.decreases-embedded
decreases-embedded l = 18 * l.depth + 9

abbrev pub decreases-joined : goal.decreases-joined
decreases-joined l = 18 * l.depth + 10

abbrev pub decreases-adjacent : goal.decreases-adjacent
decreases-adjacent l = 18 * l.depth + 11

abbrev pub decreases-concatenation_part : goal.decreases-concatenation_part
decreases-concatenation_part l = 18 * l.depth + 12

abbrev pub decreases-concatenation_parts : goal.decreases-concatenation_parts
decreases-concatenation_parts l = 18 * l.depth + 13

abbrev pub decreases-concatenation : goal.decreases-concatenation
decreases-concatenation l = 18 * l.depth + 14

abbrev pub decreases-union_part : goal.decreases-union_part
decreases-union_part l = 18 * l.depth + 15

abbrev pub decreases-union_parts : goal.decreases-union_parts
decreases-union_parts l = 18 * l.depth + 16

abbrev pub decreases-union : goal.decreases-union
decreases-union l = 18 * l.depth + 17

abbrev pub invariant-patterns-loop-turn : goal.invariant-patterns-loop-turn
invariant-patterns-loop-turn l = patterns (nested l.fn.depth) l.fn.tokens ≡ many_from (by_kind begins_expression) (pattern (nested l.fn.depth)) (l._turn-end - l._turn) l.found l.rest

abbrev pub invariant-concatenation_parts-loop-turn : goal.invariant-concatenation_parts-loop-turn
invariant-concatenation_parts-loop-turn l = concatenation_parts (nested l.fn.depth) l.fn.tokens ≡ many_from (by_kind begins_concatenation_part) (concatenation_part (nested l.fn.depth)) (l._turn-end - l._turn) l.found l.rest

abbrev pub invariant-union_parts-loop-turn : goal.invariant-union_parts-loop-turn
invariant-union_parts-loop-turn l = union_parts (nested l.fn.depth) l.fn.tokens ≡ many_from (by_kind begins_union_part) (union_part (nested l.fn.depth)) (l._turn-end - l._turn) l.found l.rest
