use Rattle.rl_build.proofs.NodeLaws.{union_made, and_made, minus_made, cat_made}
use Rattle.rl_build.proofs.node.paired.Goals as goal

pub returns-in-Union : goal.returns-in-Union
returns-in-Union c = rw c.in-Union.is (λ s t x y. union_made c.args.a.now c.args.b.now c.args.most c.or.result s t x y c.or.ensures.stands c.or.ensures.accepted c.or.ensures.refused)

pub returns-in-And : goal.returns-in-And
returns-in-And c = rw c.in-And.is (λ s t x y. and_made c.args.a.now c.args.b.now c.args.most c.and.result s t x y c.and.ensures.stands c.and.ensures.tests c.and.ensures.accepted c.and.ensures.refused)

pub returns-in-Minus : goal.returns-in-Minus
returns-in-Minus c = rw c.in-Minus.is (λ s t x y. minus_made c.args.a.now c.args.b.now c.args.most c.minus.result s t x y c.minus.ensures.stands c.minus.ensures.tests c.minus.ensures.accepted c.minus.ensures.refused)

pub returns-in-Cat : goal.returns-in-Cat
returns-in-Cat c = rw c.in-Cat.is (λ s t x y. cat_made c.args.a.now c.args.b.now c.args.most c.cat.result s t x y c.cat.ensures.stands c.cat.ensures.accepted c.cat.ensures.refused)
