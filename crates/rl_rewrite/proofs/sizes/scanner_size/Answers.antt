use Rattle.std.proofs.Common.{◌∙◌}
use Rattle.rl_rewrite.specs.Plain.{patterns_followed}
use Rattle.rl_rewrite.proofs.PatternLaws.{scanner_cut}
use Rattle.rl_rewrite.proofs.sizes.scanner_size.Goals as goal

pub returns : goal.returns
returns c = c.patterns_beside.ensures ∙ scanner_cut (patterns_followed c.args.alphabet c.args.earlier.now c.args.patterns.now)
