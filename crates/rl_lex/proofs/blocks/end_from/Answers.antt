use Rattle.std.proofs.Common.{◌+◌, ◌-◌, length, arith}
use Rattle.std.proofs.lemmas.Result.{err_from_is_err_and}
use Rattle.rl_lex.specs.Walks.{seen, IsMoved}
use Rattle.rl_lex.proofs.WalkLaws.{end_found, more_left, end_refused, nothing_more}
use Rattle.rl_lex.proofs.blocks.end_from.Goals as goal

pub returns-in_err-step-clause-answer : goal.returns-in_err-step-clause-answer
returns-in_err-step-clause-answer c =
    let p = err_from_is_err_and c.from_residual.result c.from_residual.ensures.1 in
    rw (p.1, p.2)
    (end_refused _ c.args.shape c.args.opening (seen c.loop-turn.walk) (length c.args.start.rest.now - c.loop-turn._turn)
    (omega (arith, c.loop-turn-test.true)) c.loop-turn.invariant.answer (seen c.next-here.result) c.next-here.ensures.value
    c.in_err-step.field-0.0 c.in_err-step.ensures)

pub returns-in-None-clause-answer : goal.returns-in-None-clause-answer
returns-in-None-clause-answer c =
    let told = rw c.in-None.is at c.in_ok-step.ensures in
    end_found _ c.args.shape c.args.opening (seen c.loop-turn.walk) (length c.args.start.rest.now - c.loop-turn._turn)
    (omega (arith, c.loop-turn-test.true)) c.loop-turn.invariant.answer (seen c.next-here.result) c.next-here.ensures.value told

pub loop-turn-preserved : goal.loop-turn-preserved
loop-turn-preserved c =
    let told = rw c.in-Some.is at c.in_ok-step.ensures in
    let first : IsMoved c.loop-turn.walk c.next-here.result = c.next-here.ensures.moved in
    let second : IsMoved c.next-here.result c.in-Some.behind = told.1 in
    record {
      answer = more_left _ c.args.shape c.args.opening (seen c.loop-turn.walk) (length c.args.start.rest.now - c.loop-turn._turn)
          (length c.args.start.rest.now - (c.loop-turn._turn + 1)) (omega (arith, c.loop-turn-test.true)) c.loop-turn.invariant.answer
          (seen c.next-here.result) (seen c.in-Some.behind) c.next-here.ensures.value told.0;
      offset = omega (arith, first.offset, second.offset, c.loop-turn.invariant.offset);
      from = omega (arith, first.forward, second.forward, c.loop-turn.invariant.from);
      room = second.room;
    }

pub returns-clause-answer : goal.returns-clause-answer
returns-clause-answer c =
    nothing_more _ c.args.shape c.args.opening (seen c.loop-turn.walk) (length c.args.start.rest.now - c.loop-turn._turn)
    (omega (arith, c.loop-turn-test.false)) c.loop-turn.invariant.answer c.at_end.result c.at_end.ensures.answer
