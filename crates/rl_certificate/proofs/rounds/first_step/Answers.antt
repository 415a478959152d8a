use Rattle.std.proofs.Common.{pos}
use Rattle.rl_certificate.specs.Tables.{words_of}
use Rattle.rl_certificate.proofs.RoundSteps.{step_found, step_passed}
use Rattle.rl_certificate.proofs.rounds.first_step.Goals as goal

pub returns-in-Some : goal.returns-in-Some
returns-in-Some c =
    step_found c.args.min.now c.args.steps.now.letters.items c.letters-letters.result.now c.args.count
    (words_of c.args.table.now) c.args.pair.low c.args.pair.high
    c.of-ones.result.now c.of-others.result.now c.letters-letters.ensures c.of-ones.ensures c.of-others.ensures c.loop-i.i c.loop-i-test.true _ _ _
    c.requires.steps.rising c.in-Some.rest.now c.in-Some.ensures c.loop-i.invariant

pub loop-i-preserved : goal.loop-i-preserved
loop-i-preserved c =
    step_passed c.args.min.now c.args.steps.now.letters.items c.letters-letters.result.now c.args.count
    (words_of c.args.table.now) c.args.pair.low c.args.pair.high
    c.of-ones.result.now c.of-others.result.now c.letters-letters.ensures c.of-ones.ensures c.of-others.ensures c.loop-i.i c.loop-i-test.true
    (record { key = pos 0; truths = 0 }) _ _
    c.in_default.ensures c.loop-i.invariant
