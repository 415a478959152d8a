use Rattle.std.proofs.Common.{◌++◌, Some, None}
use Rattle.std.proofs.lemmas.Slice.Eq.{strip_prefix_is, strip_suffix_is}
use Rattle.std.proofs.lemmas.Bool.Decides.{Decides-eqb}
use Rattle.rl_cread.proofs.Between.{between}
use Rattle.rl_cread.proofs.texts.between.Goals as goal

pub returns-in-None : goal.returns-in-None
returns-in-None c = λ mid e. (strip_prefix_is Decides-eqb c.args.text.now c.args.front.now None c.in-None.ensures.cases) (mid ++ c.args.back.now) e

pub returns-in-Some : goal.returns-in-Some
returns-in-Some c = between c.args.text.now c.args.front.now c.in-Some.rest.now c.args.back.now c.strip_suffix.result
    (strip_prefix_is Decides-eqb c.args.text.now c.args.front.now (Some c.in-Some.rest) c.in-Some.ensures.cases)
    (strip_suffix_is Decides-eqb c.in-Some.rest.now c.args.back.now c.strip_suffix.result c.strip_suffix.ensures.cases)
