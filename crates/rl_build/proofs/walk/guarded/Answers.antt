use Rattle.rl_automata.specs.Nodes as N
use Rattle.rl_automata.specs.Refused.{sets_in, conditions_in}
use Rattle.rl_ops.proofs.StandsLaws.{if_ok_to}
use Rattle.rl_build.specs.Trees.{IsBuilt}
use Rattle.rl_build.proofs.AnswerLaws.{guard_ready, guard_up, number_right}
use Rattle.rl_build.proofs.walk.guarded.Goals as goal

pub guard-machine-requires-clause-first : goal.guard-machine-requires-clause-first
guard-machine-requires-clause-first c = (number_right c.args.condition.0 c.requires.number).0

pub guard-machine-requires-clause-last : goal.guard-machine-requires-clause-last
guard-machine-requires-clause-last c = (number_right c.args.condition.0 c.requires.number).1

pub returns-in-Ok : goal.returns-in-Ok
returns-in-Ok c = λ alphabet t h.
    let x : IsBuilt alphabet t c.in-Ok.operand = rw c.in-Ok.is at h in
    c.plain_answer.ensures alphabet (N.When t c.args.condition.0) (guard_ready alphabet t c.args.condition.0 c.in-Ok.operand x) tt x.tests
    (if_ok_to _ _ c.with_condition-cells.result (λ d f. f alphabet (sets_in t) (conditions_in t) x.cells) c.with_condition-cells.ensures)
    (if_ok_to _ _ c.guard-machine.result (λ m f. f t x.stands) c.guard-machine.ensures.stands)

pub returns-in-Err : goal.returns-in-Err
returns-in-Err c = λ alphabet t h. guard_up alphabet t c.args.condition.0 c.in-Err.refused (rw c.in-Err.is at h)
