use Rattle.rl_automata.specs.Nodes.{node_of}
use Rattle.rl_build.specs.declared.pairing.Pairing.TheVariants as P
use Rattle.rl_build.proofs.AnswerLaws.{left_up, small_answer, small_pair}
use Rattle.rl_build.proofs.walk.+expression.Goals as goal

pub operator-returns-in-Ok-clause-answer : goal.operator-returns-in-Ok-clause-answer
operator-returns-in-Ok-clause-answer t c = c.pair.ensures (node_of c.args.a.now) (node_of c.args.b.now) c.in-Ok.ensures.answer c.expression-in-Ok.ensures.answer

pub operator-returns-in-Ok-clause-small : goal.operator-returns-in-Ok-clause-small
operator-returns-in-Ok-clause-small t c = small_pair c.args.alphabet c.args.how (node_of c.args.a.now) (node_of c.args.b.now) c.pair.result c.requires (operator-returns-in-Ok-clause-answer t c)

pub operator-returns-in-Err-clause-answer : goal.operator-returns-in-Err-clause-answer
operator-returns-in-Err-clause-answer t c = left_up c.args.alphabet c.args.how (node_of c.args.a.now) (node_of c.args.b.now) c.in-Err.refused c.in-Err.ensures.answer

pub expression-returns-in-Star-clause-small : goal.expression-returns-in-Star-clause-small
expression-returns-in-Star-clause-small t c = small_answer c.args.alphabet (node_of c.args.t.now) _ c.requires (rw (c.in-Star.is, ← c.deref-in-Star.ensures) (c.rounds.ensures c.args.alphabet _ c.expression.ensures.answer))

pub expression-returns-in-Enter-clause-small : goal.expression-returns-in-Enter-clause-small
expression-returns-in-Enter-clause-small t c = small_answer c.args.alphabet (node_of c.args.t.now) _ c.requires (rw (c.in-Enter.is, ← c.deref-in-Enter.ensures) (c.embedding.ensures c.args.alphabet _ c.expression-in-Enter.ensures.answer))

pub expression-returns-in-Finish-clause-small : goal.expression-returns-in-Finish-clause-small
expression-returns-in-Finish-clause-small t c = small_answer c.args.alphabet (node_of c.args.t.now) _ c.requires (rw (c.in-Finish.is, ← c.deref-in-Finish.ensures) (c.embedding-in-Finish.ensures c.args.alphabet _ c.expression-in-Finish.ensures.answer))

pub expression-returns-in-All-clause-small : goal.expression-returns-in-All-clause-small
expression-returns-in-All-clause-small t c = small_answer c.args.alphabet (node_of c.args.t.now) _ c.requires (rw (c.in-All.is, ← c.deref-in-All.ensures) (c.embedding-in-All.ensures c.args.alphabet _ c.expression-in-All.ensures.answer))

pub expression-returns-in-Leave-clause-small : goal.expression-returns-in-Leave-clause-small
expression-returns-in-Leave-clause-small t c = small_answer c.args.alphabet (node_of c.args.t.now) _ c.requires (rw (c.in-Leave.is, ← c.deref-in-Leave.ensures) (c.embedding-in-Leave.ensures c.args.alphabet _ c.expression-in-Leave.ensures.answer))

pub expression-returns-in-Mark-clause-small : goal.expression-returns-in-Mark-clause-small
expression-returns-in-Mark-clause-small t c = small_answer c.args.alphabet (node_of c.args.t.now) _ c.requires (rw (c.in-Mark.is, ← c.deref-in-Mark.ensures) (c.mark.ensures c.args.alphabet _ c.expression-in-Mark.ensures.answer))

pub expression-returns-in-When-clause-small : goal.expression-returns-in-When-clause-small
expression-returns-in-When-clause-small t c = small_answer c.args.alphabet (node_of c.args.t.now) _ c.requires (rw (c.in-When.is, ← c.deref-in-When.ensures) (c.guarded.ensures c.args.alphabet _ c.expression-in-When.ensures.answer))

pub operands_of_both-returns-in-Err : goal.operands_of_both-returns-in-Err
operands_of_both-returns-in-Err t c = left_up c.args.alphabet P.Union (node_of c.args.a.now) (node_of c.args.b.now) c.in-Err.refused c.in-Err.ensures
