use Rattle.std.proofs.Common.{◌≡◌, length, true, false, refl}
use Rattle.std.proofs.lemmas.Result.{err_from_is_err_and}
use Rattle.rl_parse.specs.Rules.{kind_of, nested, is_key, is_plain, patterns, pattern, begins_expression, concatenation_parts, concatenation_part, begins_concatenation_part, union_parts, union_part, begins_union_part}
use Rattle.rl_parse.proofs.Loop.{begun, goes_on, ends, stopped, done}
use Rattle.rl_parse.proofs.Operands.{neither}
use Rattle.rl_readers.specs.Readers.{sees}
use Rattle.rl_parse.proofs.expressions.+parser.Goals as goal
use Rattle.rl_parse.proofs.expressions.+parser.Goals.{patterns-else-loop-turn-test, patterns-then-loop-turn-test+then-not-begins_expression, concatenation_parts-else-loop-turn-test, concatenation_parts-then-loop-turn-test+then-not-begins_concatenation_part, union_parts-else-loop-turn-test, union_parts-then-loop-turn-test+then-not-begins_union_part}

pub patterns-loop-turn-init : goal.patterns-loop-turn-init
unfolding patterns
patterns-loop-turn-init t c = rw c.new-found.ensures (begun begins_expression (pattern (nested c.args.depth)) c.args.tokens.now)

pub patterns-returns-in_err-one : goal.patterns-returns-in_err-one
patterns-returns-in_err-one t c =
    let p = err_from_is_err_and c.from_residual.result c.from_residual.ensures.1 in
    let hit : begins_expression (kind_of c.loop-turn.rest.now) ≡ true = cc in
    rw (p.1, p.2) (ends begins_expression refl (pattern (nested c.args.depth)) (length c.args.tokens.now) (patterns (nested c.args.depth) c.args.tokens.now) c.loop-turn._turn c.loop-turn.found c.loop-turn.rest.now
    c.in_err-one.field-0.0 c.loop-turn-test.true hit c.in_err-one.ensures c.loop-turn.invariant)

pub patterns-loop-turn-preserved : goal.patterns-loop-turn-preserved
patterns-loop-turn-preserved t c =
    let hit : begins_expression (kind_of c.loop-turn.rest.now) ≡ true = cc in
    rw c.in_ok-push.ensures.ok (goes_on begins_expression refl (pattern (nested c.args.depth)) (length c.args.tokens.now) (patterns (nested c.args.depth) c.args.tokens.now) c.loop-turn._turn c.loop-turn.found c.loop-turn.rest.now
    c.in_ok-one.one c.in_ok-one.after.now c.loop-turn-test.true hit c.in_ok-one.ensures c.loop-turn.invariant)

pub patterns-returns : goal.patterns-returns
patterns-returns t c = elim c.loop-turn-test.branch [
  | patterns-else-loop-turn-test w ↦ done begins_expression refl (pattern (nested c.args.depth)) (length c.args.tokens.now) (patterns (nested c.args.depth) c.args.tokens.now) c.loop-turn._turn c.loop-turn.found c.loop-turn.rest.now w.loop-turn-test.false c.loop-turn.invariant
  | patterns-then-loop-turn-test+then-not-begins_expression w ↦
      let miss : begins_expression (kind_of c.loop-turn.rest.now) ≡ false = cc in
      stopped begins_expression refl (pattern (nested c.args.depth)) (length c.args.tokens.now) (patterns (nested c.args.depth) c.args.tokens.now) c.loop-turn._turn c.loop-turn.found c.loop-turn.rest.now miss c.loop-turn.invariant
]

pub concatenation_parts-loop-turn-init : goal.concatenation_parts-loop-turn-init
unfolding concatenation_parts
concatenation_parts-loop-turn-init t c = rw c.new-found.ensures (begun begins_concatenation_part (concatenation_part (nested c.args.depth)) c.args.tokens.now)

pub concatenation_parts-returns-in_err-one : goal.concatenation_parts-returns-in_err-one
concatenation_parts-returns-in_err-one t c =
    let p = err_from_is_err_and c.from_residual.result c.from_residual.ensures.1 in
    let hit : begins_concatenation_part (kind_of c.loop-turn.rest.now) ≡ true = cc in
    rw (p.1, p.2) (ends begins_concatenation_part refl (concatenation_part (nested c.args.depth)) (length c.args.tokens.now) (concatenation_parts (nested c.args.depth) c.args.tokens.now) c.loop-turn._turn c.loop-turn.found c.loop-turn.rest.now
    c.in_err-one.field-0.0 c.loop-turn-test.true hit c.in_err-one.ensures c.loop-turn.invariant)

pub concatenation_parts-loop-turn-preserved : goal.concatenation_parts-loop-turn-preserved
concatenation_parts-loop-turn-preserved t c =
    let hit : begins_concatenation_part (kind_of c.loop-turn.rest.now) ≡ true = cc in
    rw c.in_ok-push.ensures.ok (goes_on begins_concatenation_part refl (concatenation_part (nested c.args.depth)) (length c.args.tokens.now) (concatenation_parts (nested c.args.depth) c.args.tokens.now) c.loop-turn._turn c.loop-turn.found c.loop-turn.rest.now
    c.in_ok-one.one c.in_ok-one.after.now c.loop-turn-test.true hit c.in_ok-one.ensures c.loop-turn.invariant)

pub concatenation_parts-returns : goal.concatenation_parts-returns
concatenation_parts-returns t c = elim c.loop-turn-test.branch [
  | concatenation_parts-else-loop-turn-test w ↦ done begins_concatenation_part refl (concatenation_part (nested c.args.depth)) (length c.args.tokens.now) (concatenation_parts (nested c.args.depth) c.args.tokens.now) c.loop-turn._turn c.loop-turn.found c.loop-turn.rest.now w.loop-turn-test.false c.loop-turn.invariant
  | concatenation_parts-then-loop-turn-test+then-not-begins_concatenation_part w ↦
      let miss : begins_concatenation_part (kind_of c.loop-turn.rest.now) ≡ false = cc in
      stopped begins_concatenation_part refl (concatenation_part (nested c.args.depth)) (length c.args.tokens.now) (concatenation_parts (nested c.args.depth) c.args.tokens.now) c.loop-turn._turn c.loop-turn.found c.loop-turn.rest.now miss c.loop-turn.invariant
]

pub union_parts-loop-turn-init : goal.union_parts-loop-turn-init
unfolding union_parts
union_parts-loop-turn-init t c = rw c.new-found.ensures (begun begins_union_part (union_part (nested c.args.depth)) c.args.tokens.now)

pub union_parts-returns-in_err-one : goal.union_parts-returns-in_err-one
union_parts-returns-in_err-one t c =
    let p = err_from_is_err_and c.from_residual.result c.from_residual.ensures.1 in
    let hit : begins_union_part (kind_of c.loop-turn.rest.now) ≡ true = cc in
    rw (p.1, p.2) (ends begins_union_part refl (union_part (nested c.args.depth)) (length c.args.tokens.now) (union_parts (nested c.args.depth) c.args.tokens.now) c.loop-turn._turn c.loop-turn.found c.loop-turn.rest.now
    c.in_err-one.field-0.0 c.loop-turn-test.true hit c.in_err-one.ensures c.loop-turn.invariant)

pub union_parts-loop-turn-preserved : goal.union_parts-loop-turn-preserved
union_parts-loop-turn-preserved t c =
    let hit : begins_union_part (kind_of c.loop-turn.rest.now) ≡ true = cc in
    rw c.in_ok-push.ensures.ok (goes_on begins_union_part refl (union_part (nested c.args.depth)) (length c.args.tokens.now) (union_parts (nested c.args.depth) c.args.tokens.now) c.loop-turn._turn c.loop-turn.found c.loop-turn.rest.now
    c.in_ok-one.one c.in_ok-one.after.now c.loop-turn-test.true hit c.in_ok-one.ensures c.loop-turn.invariant)

pub union_parts-returns : goal.union_parts-returns
union_parts-returns t c = elim c.loop-turn-test.branch [
  | union_parts-else-loop-turn-test w ↦ done begins_union_part refl (union_part (nested c.args.depth)) (length c.args.tokens.now) (union_parts (nested c.args.depth) c.args.tokens.now) c.loop-turn._turn c.loop-turn.found c.loop-turn.rest.now w.loop-turn-test.false c.loop-turn.invariant
  | union_parts-then-loop-turn-test+then-not-begins_union_part w ↦
      let miss : begins_union_part (kind_of c.loop-turn.rest.now) ≡ false = cc in
      stopped begins_union_part refl (union_part (nested c.args.depth)) (length c.args.tokens.now) (union_parts (nested c.args.depth) c.args.tokens.now) c.loop-turn._turn c.loop-turn.found c.loop-turn.rest.now miss c.loop-turn.invariant
]

pub operand-returns : goal.operand-returns
operand-returns t c =
    let no_key : sees is_key c.args.tokens.now ≡ false = cc in
    let no_plain : sees is_plain c.args.tokens.now ≡ false = cc in
    rw (neither (nested c.args.depth) c.args.tokens.now no_key no_plain) c.other_operand.ensures
