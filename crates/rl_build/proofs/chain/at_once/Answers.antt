use Rattle.std.proofs.Common.{◌≤◌, length, subst, arith}
use Rattle.rl_automata.specs.Nodes.{node_of}
use Rattle.rl_build.specs.Chains.{AreSums}
use Rattle.rl_build.proofs.ChainLaws.{chain_built}
use Rattle.rl_build.proofs.chain.at_once.Goals as goal

pub returns-in-Ok-Some : goal.returns-in-Ok-Some
returns-in-Ok-Some c =
    let alphabet = c.args.alphabet in
    let t = node_of c.args.t.now in
    let m = c.in-Ok.machine in
    let few : length m.states ≤ 32767 = omega (arith, c.states-states.ensures.count) in
    let told : AreSums alphabet c.states-states.result t c.in-Ok-Some.sums = rw c.in-Ok-Some.field-0-is at c.in-Ok-Some.ensures.sums in
    let sums : AreSums alphabet (length m.states) t c.in-Ok-Some.sums = subst (λ n. AreSums alphabet n t c.in-Ok-Some.sums) c.states-states.ensures.count told in
    chain_built alphabet m few t c.args.operands.now c.in-Ok-Some.sums c.requires.built c.requires.free c.in-Ok.ensures sums
