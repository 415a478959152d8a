use Rattle.std.proofs.Common.{◌≡◌, ◌+◌, ◌-◌, true, length, arith, rules}
use Rattle.std.proofs.lemmas.Result.{err_from_is_err_and}
use Rattle.rl_lexical.specs.Bytes.{is_empty}
use Rattle.rl_lex.proofs.PartLaws.{all_found, none_left, one_more, refused}
use Rattle.rl_lex.proofs.parts.parts_from.Goals as goal

pub returns-then-is_empty : goal.returns-then-is_empty
returns-then-is_empty c =
    let e : is_empty c.loop-turn.rest.now ≡ true = search rules in
    none_left _ c.loop-turn.found c.loop-turn.fresh c.loop-turn.at c.loop-turn.rest.now (length c.args.text.now - c.loop-turn._turn) e c.loop-turn.invariant.answer

pub returns-in_err-region : goal.returns-in_err-region
returns-in_err-region c =
    let p = err_from_is_err_and c.from_residual.result c.from_residual.ensures.1 in
    rw (p.1, p.2)
    (refused _ c.loop-turn.found c.loop-turn.fresh c.loop-turn.at c.loop-turn.rest.now (length c.args.text.now - c.loop-turn._turn)
    (omega (arith, c.loop-turn-test.true)) c.loop-turn.invariant.answer c.in_err-region.field-0.0 c.in_err-region.ensures)

pub loop-turn-preserved : goal.loop-turn-preserved
loop-turn-preserved c = record {
  answer = rw c.in_ok-push.ensures
      (one_more _ c.loop-turn.found c.loop-turn.fresh c.loop-turn.at c.loop-turn.rest.now (length c.args.text.now - c.loop-turn._turn)
      (length c.args.text.now - (c.loop-turn._turn + 1)) (omega (arith, c.loop-turn-test.true)) c.loop-turn.invariant.answer c.in_ok-region.region c.in_ok-region.ensures);
  room = c.in_ok-region.ensures.1;
}

pub returns : goal.returns
returns c =
    all_found _ c.loop-turn.found c.loop-turn.fresh c.loop-turn.at c.loop-turn.rest.now (length c.args.text.now - c.loop-turn._turn)
    (omega (arith, c.loop-turn-test.false)) c.loop-turn.invariant.answer
