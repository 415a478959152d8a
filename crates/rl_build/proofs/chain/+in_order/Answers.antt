use Rattle.std.proofs.Common.{rules, ◌≡◌, ◌+◌, ap, sym, subst, arith}
use Rattle.rl_automata.specs.Nodes.{node_of}
use Rattle.rl_model.specs.Counts.{size_of}
use Rattle.rl_build.specs.declared.pairing.Pairing.TheVariants as P
use Rattle.rl_build.specs.Trees.{IsAnswer, IsRefused}
use Rattle.rl_build.proofs.AnswerLaws.{left_up, small_answer}
use Rattle.rl_build.proofs.ChainLaws.{some_operand, front_ready, small_built, built_alone}
use Rattle.rl_build.proofs.chain.+in_order.Goals as goal

pub unreachable-requires : goal.unreachable-requires
unreachable-requires t c = some_operand c.args.alphabet (node_of c.args.t.now) c.args.operands.items c.requires.built (omega (arith, c.in_default.ensures.cases))

pub in_order-requires : goal.in_order-requires
in_order-requires t c =
    let a = node_of c.in-Some-sides.a.now in
    let b = node_of c.in-Some-sides.field-0-1.now in
    let size : size_of (node_of c.args.t.now) ≡ size_of a + size_of b + 1 = ap size_of c.in-Some-sides.ensures in
    let r = front_ready c.args.alphabet (node_of c.args.t.now) a b c.args.operands.items c.pop.new.self.items c.in-Some.last c.in-Some-sides.ensures c.in-Some.ensures.items c.requires.fit c.requires.built in
    (search rules, r.0)

pub both-requires-clause-right : goal.both-requires-clause-right
both-requires-clause-right t c =
    let a = node_of c.in-Some-sides.a.now in
    let b = node_of c.in-Some-sides.field-0-1.now in
    let r = front_ready c.args.alphabet (node_of c.args.t.now) a b c.args.operands.items c.pop.new.self.items c.in-Some.last c.in-Some-sides.ensures c.in-Some.ensures.items c.requires.fit c.requires.built in
    small_built c.args.alphabet b c.in-Some.last r.1.0 r.1.1

pub returns-in-Ok-clause-answer : goal.returns-in-Ok-clause-answer
returns-in-Ok-clause-answer t c =
    let a = node_of c.in-Some-sides.a.now in
    let b = node_of c.in-Some-sides.field-0-1.now in
    let r = front_ready c.args.alphabet (node_of c.args.t.now) a b c.args.operands.items c.pop.new.self.items c.in-Some.last c.in-Some-sides.ensures c.in-Some.ensures.items c.requires.fit c.requires.built in
    subst (λ n. IsAnswer c.args.alphabet n c.both.result) (sym c.in-Some-sides.ensures) (c.both.ensures a b c.in-Ok.ensures.answer r.1.1)

pub returns-in-Ok-clause-small : goal.returns-in-Ok-clause-small
returns-in-Ok-clause-small t c = small_answer c.args.alphabet (node_of c.args.t.now) c.both.result c.requires.fit (returns-in-Ok-clause-answer t c)

pub returns-in-Err-clause-answer : goal.returns-in-Err-clause-answer
returns-in-Err-clause-answer t c =
    let a = node_of c.in-Some-sides.a.now in
    let b = node_of c.in-Some-sides.field-0-1.now in
    subst (λ n. IsRefused c.args.alphabet n c.in-Err.refused) (sym c.in-Some-sides.ensures) (left_up c.args.alphabet P.Union a b c.in-Err.refused c.in-Err.ensures.answer)

pub returns-in-None-clause-answer : goal.returns-in-None-clause-answer
returns-in-None-clause-answer t c = built_alone c.args.alphabet (node_of c.args.t.now) c.args.operands.items c.pop.new.self.items c.in-Some.last c.in-None.ensures c.in-Some.ensures.items c.requires.built

pub returns-in-None-clause-small : goal.returns-in-None-clause-small
returns-in-None-clause-small t c = small_built c.args.alphabet (node_of c.args.t.now) c.in-Some.last c.requires.fit (returns-in-None-clause-answer t c)
