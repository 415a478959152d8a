use Rattle.std.proofs.Common.{rules, subst, SFits, w64, to_z-of_z}
use Rattle.rl_automata.specs.declared.tree.Label.TheVariants as L
use Rattle.rl_automata.specs.Nodes.{Node}
use Rattle.rl_fsm.specs.Builds.{StandsFor}
use Rattle.rl_embed.specs.Embeds.{embed_node}
use Rattle.rl_build.proofs.node.prioritised.Goals as goal

pub returns : goal.returns
returns c =
    let fits : SFits w64 c.args.prior.value = search rules in
    subst (λ v. (t : Node) → StandsFor t c.args.a → StandsFor (embed_node c.args.how t (L.Prior c.args.prior.stamp c.args.prior.name v)) c.in_ok-machine.machine) (to_z-of_z fits) c.in_ok-machine.ensures.stands
