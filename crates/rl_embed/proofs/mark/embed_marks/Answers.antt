use Rattle.rl_embed.proofs.MarkLaws.{follows_from, numbered_from, stands_from}
use Rattle.rl_embed.proofs.mark.embed_marks.Goals as goal

pub returns-clause-follows : goal.returns-clause-follows
returns-clause-follows c = follows_from c.args.class c.args.kind _ c.args.a c.in_ok-m.m c.in_ok-m.ensures.machine c.in_ok-m.ensures.sound

pub returns-clause-numbered : goal.returns-clause-numbered
returns-clause-numbered c = numbered_from c.args.class c.args.kind _ c.args.a c.in_ok-m.m c.in_ok-m.ensures.machine

pub returns-clause-stands : goal.returns-clause-stands
returns-clause-stands c = stands_from c.args.class c.args.kind c.args.stamp c.args.action.0 c.args.a c.in_ok-m.m c.in_ok-m.ensures.machine c.in_ok-m.ensures.sound
