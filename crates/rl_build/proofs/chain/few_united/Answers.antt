use Rattle.rl_ops.proofs.StandsLaws.{if_ok_to}
use Rattle.rl_build.proofs.ChainLaws.{pair_united, triple_united}
use Rattle.rl_build.proofs.chain.few_united.Goals as goal

pub returns-in-None : goal.returns-in-None
returns-in-None c = pair_united c.args.operands.now c.in-Some.behind.now c.in-Some-split_first.last.now c.in-Some.a.now c.in-Some-split_first.b.now c.in_ok-front.front
    c.in-Some.ensures.cases.0 c.in-Some-split_first.ensures.cases.0 c.in-None.ensures.cases c.in_ok-front.ensures.stands

pub returns-in-Some-split_first-2 : goal.returns-in-Some-split_first-2
returns-in-Some-split_first-2 c = if_ok_to _ _ c.or-in-Some-split_first-2.result
    (λ m f. triple_united c.args.operands.now c.in-Some.behind.now c.in-Some-split_first.last.now c.in-Some-split_first-2.field-0-1.now c.in-Some.a.now c.in-Some-split_first.b.now c.in-Some-split_first-2.c.now c.in_ok-front.front m
    c.in-Some.ensures.cases.0 c.in-Some-split_first.ensures.cases.0 c.in-Some-split_first-2.ensures.cases.0 c.requires.few c.in_ok-front.ensures.stands f)
    c.or-in-Some-split_first-2.ensures.stands
