use Rattle.rl_refine.proofs.EdgeLaws.{alike_from, alike_to, alike_to_back}
use Rattle.rl_refine.proofs.cover.step_alike.Goals as goal

pub returns-then-are_covered : goal.returns-then-are_covered
returns-then-are_covered c = (
  λ t. alike_from c.args.classes.now c.args.edges.now c.args.others.now c.requires.edges c.requires.others (c.are_covered.ensures.0 c.if-are_covered.true) (c.are_covered-then-are_covered.ensures.0 t),
  λ s. c.are_covered-then-are_covered.ensures.1 (alike_to_back c.args.classes.now c.args.edges.now c.args.others.now c.requires.edges c.requires.others s),
)

pub returns-else-are_covered : goal.returns-else-are_covered
returns-else-are_covered c = (
  λ t. let f = c.if-are_covered.false in cc,
  λ s. c.are_covered.ensures.1 (alike_to c.args.classes.now c.args.edges.now c.args.others.now c.requires.edges c.requires.others s),
)
