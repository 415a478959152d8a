use Rattle.std.proofs.Common.{◌≡◌, ◌∙◌, ap}
use Rattle.std.proofs.Math.Facts.{to_z-of_z}
use Rattle.rl_automata.specs.declared.tree.Label.TheVariants as L
use Rattle.rl_automata.specs.Nodes.{carry_of}
use Rattle.rl_embed.proofs.EmbedLaws.{follows_from, numbered_from, stands_from}
use Rattle.rl_embed.proofs.embed.embed_priors.Goals as goal

pub returns-clause-follows : goal.returns-clause-follows
returns-clause-follows c =
    let d : c.in_ok-label.label ≡ carry_of (L.Prior c.args.stamp c.args.name c.args.value) = c.in_ok-label.ensures ∙ ap (λ v. carry_of (L.Prior c.args.stamp c.args.name v)) (to_z-of_z c.ranges.value) in
    follows_from c.args.how c.in_ok-label.label c.args.a c.in_ok-m.m c.in_ok-m.ensures.machine _ d

pub returns-clause-numbered : goal.returns-clause-numbered
returns-clause-numbered c = numbered_from c.args.how c.in_ok-label.label c.args.a c.in_ok-m.m c.in_ok-m.ensures.machine

pub returns-clause-stands : goal.returns-clause-stands
returns-clause-stands c =
    let d : c.in_ok-label.label ≡ carry_of (L.Prior c.args.stamp c.args.name c.args.value) = c.in_ok-label.ensures ∙ ap (λ v. carry_of (L.Prior c.args.stamp c.args.name v)) (to_z-of_z c.ranges.value) in
    stands_from c.args.how c.in_ok-label.label c.args.a c.in_ok-m.m c.in_ok-m.ensures.machine (L.Prior c.args.stamp c.args.name c.args.value) d c.in_ok-m.ensures.sound
