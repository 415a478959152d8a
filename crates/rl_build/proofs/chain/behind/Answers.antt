use Rattle.std.proofs.Common.{refl}
use Rattle.rl_automata.specs.Nodes.{node_of}
use Rattle.rl_build.specs.declared.pairing.Pairing.TheVariants as P
use Rattle.rl_build.specs.Chains.{operands_of}
use Rattle.rl_build.specs.Trees.{IsBuilt}
use Rattle.rl_automata.specs.Nodes as N
use Rattle.rl_build.proofs.AnswerLaws.{left_up, right_up}
use Rattle.rl_build.proofs.ChainLaws.{built_behind, gathered_of}
use Rattle.rl_build.proofs.chain.behind.Goals as goal

pub returns-in-Ok : goal.returns-in-Ok
returns-in-Ok c = λ b h.
    let alphabet = c.args.alphabet in
    let a = node_of c.args.a.now in
    let x : IsBuilt alphabet b c.in-Ok.last = rw c.in-Ok.is at h in
    gathered_of alphabet (N.Union a b) _ c.pushed.result (built_behind alphabet (operands_of a) c.args.operands.items b c.in-Ok.last c.requires.built x) c.pushed.ensures

pub returns-in-Ok-in_order : goal.returns-in-Ok-in_order
returns-in-Ok-in_order c = λ b h.
    right_up c.args.alphabet P.Union (node_of c.args.a.now) b c.in-Ok-in_order.left c.in-Err.refused _ c.in-Ok-in_order.ensures.answer (rw c.in-Err.is at h) refl refl

pub returns-in-Err-in_order : goal.returns-in-Err-in_order
returns-in-Err-in_order c = λ b h. left_up c.args.alphabet P.Union (node_of c.args.a.now) b c.in-Err-in_order.first c.in-Err-in_order.ensures.answer
