use Rattle.std.proofs.Common.{◌≡◌, ◌++◌, replicate}
use Rattle.rl_cread.specs.declared.said.Form.TheVariants.{Entry}
use Rattle.rl_cread.specs.declared.said.TheConstants.{HEAD}
use Rattle.rl_cread.proofs.section.forms.Given as goal

abbrev pub invariant-loop-i : goal.invariant-loop-i
invariant-loop-i l = l.forms.items ≡ HEAD ++ replicate l._i Entry
