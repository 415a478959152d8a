use Rattle.rl_compile.proofs.Steps.{stem_kept}
use Rattle.rl_compile.proofs.program.stem.Goals as goal

pub returns-in-None : goal.returns-in-None
returns-in-None c = stem_kept c.args.name.now c.in-None.ensures.cases
