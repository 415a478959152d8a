use Rattle.std.proofs.Common.{rules, ◌≡◌, ◌+◌, ap, sym, subst}
use Rattle.rl_automata.specs.Nodes.{node_of}
use Rattle.rl_model.specs.Counts.{size_of}
use Rattle.rl_ops.proofs.StandsLaws.{if_ok_to}
use Rattle.rl_build.specs.Chains.{AreSums, AreSumsOf}
use Rattle.rl_build.proofs.ChainLaws.{some_operand, front_ready, small_built, small_option, small_sums, built_alone, fits_alone}
use Rattle.rl_build.proofs.chain.+sums_of.Goals as goal

pub unreachable-requires : goal.unreachable-requires
unreachable-requires t c = some_operand c.args.alphabet (node_of c.args.t.now) c.args.operands.now c.requires.built c.in_default.ensures.cases

pub sums_of-requires : goal.sums_of-requires
sums_of-requires t c =
    let a = node_of c.in-Some-sides.a.now in
    let b = node_of c.in-Some-sides.field-0-1.now in
    let size : size_of (node_of c.args.t.now) ≡ size_of a + size_of b + 1 = ap size_of c.in-Some-sides.ensures in
    let r = front_ready c.args.alphabet (node_of c.args.t.now) a b c.args.operands.now c.in-Some.front.now c.in-Some.last.now c.in-Some-sides.ensures c.in-Some.ensures.cases.0 c.requires.fit c.requires.built in
    (search rules, r.0)

pub more_sums-requires-clause-operand : goal.more_sums-requires-clause-operand
more_sums-requires-clause-operand t c =
    let a = node_of c.in-Some-sides.a.now in
    let b = node_of c.in-Some-sides.field-0-1.now in
    let r = front_ready c.args.alphabet (node_of c.args.t.now) a b c.args.operands.now c.in-Some.front.now c.in-Some.last.now c.in-Some-sides.ensures c.in-Some.ensures.cases.0 c.requires.fit c.requires.built in
    small_built c.args.alphabet b c.in-Some.last.now r.1.0 r.1.1

pub returns-in-Some-2-clause-sums : goal.returns-in-Some-2-clause-sums
returns-in-Some-2-clause-sums t c =
    let alphabet = c.args.alphabet in
    let a = node_of c.in-Some-sides.a.now in
    let b = node_of c.in-Some-sides.field-0-1.now in
    let r = front_ready alphabet (node_of c.args.t.now) a b c.args.operands.now c.in-Some.front.now c.in-Some.last.now c.in-Some-sides.ensures c.in-Some.ensures.cases.0 c.requires.fit c.requires.built in
    let x : AreSums alphabet c.args.states a c.in-Some-2.sums = rw c.in-Some-2.is at c.in_ok-sums-in-Some-sides.ensures.sums in
    if_ok_to _ _ c.more_sums.result (λ s f. subst (λ n. AreSumsOf alphabet c.args.states n s) (sym c.in-Some-sides.ensures) (f a b x r.1.1)) c.more_sums.ensures

pub returns-in-Some-2-clause-small : goal.returns-in-Some-2-clause-small
returns-in-Some-2-clause-small t c =
    if_ok_to _ _ c.more_sums.result (λ s x. small_option c.args.alphabet c.args.states (node_of c.args.t.now) s c.requires.fit x) (returns-in-Some-2-clause-sums t c)

pub returns-in_ok-first_sums-in-None-clause-sums : goal.returns-in_ok-first_sums-in-None-clause-sums
returns-in_ok-first_sums-in-None-clause-sums t c =
    let alphabet = c.args.alphabet in
    let u = node_of c.args.t.now in
    c.in_ok-first_sums-in-None.ensures alphabet c.args.states u (fits_alone alphabet c.args.states u c.in-None.ensures)
    (built_alone alphabet u c.args.operands.now c.in-Some.front.now c.in-Some.last.now c.in-None.ensures c.in-Some.ensures.cases.0 c.requires.built)

pub returns-in_ok-first_sums-in-None-clause-small : goal.returns-in_ok-first_sums-in-None-clause-small
returns-in_ok-first_sums-in-None-clause-small t c =
    small_sums c.args.alphabet c.args.states (node_of c.args.t.now) c.in_ok-first_sums-in-None.field-0 c.requires.fit (returns-in_ok-first_sums-in-None-clause-sums t c)
