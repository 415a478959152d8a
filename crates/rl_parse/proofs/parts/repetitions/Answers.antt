use Rattle.std.proofs.Common.{◌≡◌, length, true, false, refl}
use Rattle.std.proofs.lemmas.Result.{err_from_is_err_and}
use Rattle.rl_parse.specs.Rules.{kind_of, repetitions, one_repetition, begins_repetition}
use Rattle.rl_parse.proofs.Loop.{begun, goes_on, ends, stopped, done}
use Rattle.rl_parse.proofs.parts.repetitions.Goals as goal
use Rattle.rl_parse.proofs.parts.repetitions.Goals.{else-loop-turn-test, then-loop-turn-test+then-not-begins_repetition}

pub loop-turn-init : goal.loop-turn-init
unfolding repetitions
loop-turn-init c = rw c.new-found.ensures (begun begins_repetition one_repetition c.args.tokens.now)

pub returns-in_err-one : goal.returns-in_err-one
returns-in_err-one c =
    let p = err_from_is_err_and c.from_residual.result c.from_residual.ensures.1 in
    let hit : begins_repetition (kind_of c.loop-turn.rest.now) ≡ true = cc in
    rw (p.1, p.2) (ends begins_repetition refl one_repetition (length c.args.tokens.now) (repetitions c.args.tokens.now) c.loop-turn._turn c.loop-turn.found c.loop-turn.rest.now
    c.in_err-one.field-0.0 c.loop-turn-test.true hit c.in_err-one.ensures c.loop-turn.invariant)

pub loop-turn-preserved : goal.loop-turn-preserved
loop-turn-preserved c =
    let hit : begins_repetition (kind_of c.loop-turn.rest.now) ≡ true = cc in
    rw c.in_ok-push.ensures.ok (goes_on begins_repetition refl one_repetition (length c.args.tokens.now) (repetitions c.args.tokens.now) c.loop-turn._turn c.loop-turn.found c.loop-turn.rest.now
    c.in_ok-one.one c.in_ok-one.after.now c.loop-turn-test.true hit c.in_ok-one.ensures c.loop-turn.invariant)

pub returns : goal.returns
returns c = elim c.loop-turn-test.branch [
  | else-loop-turn-test w ↦ done begins_repetition refl one_repetition (length c.args.tokens.now) (repetitions c.args.tokens.now) c.loop-turn._turn c.loop-turn.found c.loop-turn.rest.now w.loop-turn-test.false c.loop-turn.invariant
  | then-loop-turn-test+then-not-begins_repetition w ↦
      let miss : begins_repetition (kind_of c.loop-turn.rest.now) ≡ false = cc in
      stopped begins_repetition refl one_repetition (length c.args.tokens.now) (repetitions c.args.tokens.now) c.loop-turn._turn c.loop-turn.found c.loop-turn.rest.now miss c.loop-turn.invariant
]
