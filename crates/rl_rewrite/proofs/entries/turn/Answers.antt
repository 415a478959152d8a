use Rattle.rl_rewrite.proofs.CutLaws.{sizes_front}
use Rattle.rl_rewrite.proofs.EntryLaws.{turn_next}
use Rattle.rl_rewrite.proofs.entries.turn.Goals as goal

pub step-requires-clause-sizes : goal.step-requires-clause-sizes
step-requires-clause-sizes c =
    sizes_front c.args.alphabet c.args.definitions.now c.before-earlier.result.now c.args.sizes.now c.sizes_before-known.result.now c.args.i c.requires.sizes c.requires.within c.before-earlier.ensures c.sizes_before-known.ensures

pub returns-clause-made : goal.returns-clause-made
returns-clause-made c =
    turn_next c.args.alphabet c.args.definitions.now c.before-earlier.result.now c.args.i c.index-definitions-i.result c.args.made c.in_ok-r.r c.requires.within c.index-definitions-i.is c.before-earlier.ensures
    c.requires.made c.in_ok-r.ensures.made
