use Rattle.std.proofs.Common.{rules, subst, SFits, w64, to_z-of_z}
use Rattle.std.specs.Prelude.{IfOk}
use Rattle.rl_automata.specs.declared.tree.Label.TheVariants as L
use Rattle.rl_automata.specs.Nodes.{Node}
use Rattle.rl_fsm.specs.Builds.{StandsFor}
use Rattle.rl_embed.specs.Embeds.{embed_node}
use Rattle.rl_build.proofs.node.labelled.Goals as goal

pub returns-in-Action : goal.returns-in-Action
returns-in-Action c = rw c.in-Action.is c.embed_actions.ensures.stands

pub returns-in-Prior : goal.returns-in-Prior
returns-in-Prior c =
    let fits : SFits w64 c.in-Prior.value = search rules in
    rw c.in-Prior.is
    (subst (λ v. IfOk c.prioritised.result (λ m. (t : Node) → StandsFor t c.args.a → StandsFor (embed_node c.args.how t (L.Prior c.in-Prior.stamp c.in-Prior.name v)) m)) (to_z-of_z fits) c.prioritised.ensures)
