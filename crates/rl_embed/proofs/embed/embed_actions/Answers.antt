use Rattle.rl_automata.specs.declared.tree.Label.TheVariants as L
use Rattle.rl_embed.proofs.EmbedLaws.{follows_from, numbered_from, stands_from}
use Rattle.rl_embed.proofs.embed.embed_actions.Goals as goal

pub returns-clause-follows : goal.returns-clause-follows
returns-clause-follows c = follows_from c.args.how c.in_ok-label.label c.args.a c.in_ok-m.m c.in_ok-m.ensures.machine _ c.in_ok-label.ensures

pub returns-clause-numbered : goal.returns-clause-numbered
returns-clause-numbered c = numbered_from c.args.how c.in_ok-label.label c.args.a c.in_ok-m.m c.in_ok-m.ensures.machine

pub returns-clause-stands : goal.returns-clause-stands
returns-clause-stands c = stands_from c.args.how c.in_ok-label.label c.args.a c.in_ok-m.m c.in_ok-m.ensures.machine (L.Action c.args.stamp c.args.action) c.in_ok-label.ensures c.in_ok-m.ensures.sound
