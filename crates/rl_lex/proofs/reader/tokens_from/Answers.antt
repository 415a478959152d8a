use Rattle.std.proofs.Common.{◌+◌, ◌-◌, length, arith}
use Rattle.std.proofs.lemmas.Result.{err_from_is_err_and}
use Rattle.rl_lex.proofs.TokenLaws.{found_all, found_end, found_more, found_refusal}
use Rattle.rl_lex.proofs.reader.tokens_from.Goals as goal

pub returns-in_err-here : goal.returns-in_err-here
returns-in_err-here c =
    let p = err_from_is_err_and c.from_residual.result c.from_residual.ensures.1 in
    rw (p.1, p.2)
    (found_refusal _ c.loop-turn.found c.loop-turn.context c.loop-turn.at c.loop-turn.rest.now (length c.args.text.now - c.loop-turn._turn)
    (omega (arith, c.loop-turn-test.true)) c.loop-turn.invariant.answer c.in_err-here.field-0.0 c.in_err-here.ensures)

pub returns-in-End : goal.returns-in-End
returns-in-End c =
    found_end _ c.loop-turn.found c.loop-turn.context c.loop-turn.at c.loop-turn.rest.now (length c.args.text.now - c.loop-turn._turn)
    (omega (arith, c.loop-turn-test.true)) c.loop-turn.invariant.answer c.in-End.here (rw c.in-End.is at c.in_ok-here.ensures) c.ended.result c.ended.ensures

pub loop-turn-preserved : goal.loop-turn-preserved
loop-turn-preserved c =
    let next = rw c.in-Token.is at c.in_ok-here.ensures in
    record {
      answer = rw c.in_ok-push-in-Token.ensures
          (found_more _ c.loop-turn.found c.loop-turn.context c.loop-turn.at c.loop-turn.rest.now (length c.args.text.now - c.loop-turn._turn)
          (length c.args.text.now - (c.loop-turn._turn + 1)) (omega (arith, c.loop-turn-test.true)) c.loop-turn.invariant.answer c.in-Token.after next);
      room = next.2.room;
    }

pub returns : goal.returns
returns c =
    found_all _ c.loop-turn.found c.loop-turn.context c.loop-turn.at c.loop-turn.rest.now (length c.args.text.now - c.loop-turn._turn)
    (omega (arith, c.loop-turn-test.false)) c.loop-turn.invariant.answer c.ended-2.result c.ended-2.ensures
