use Rattle.std.proofs.Common.{◌≡◌, drop}
use Rattle.rl_cexec.specs.Names.{variable_text}
use Rattle.rl_cexec.proofs.names.variable_text.Given as goal

abbrev pub invariant-loop-v : goal.invariant-loop-v
invariant-loop-v l = variable_text (drop l.v-index l.variables) l.name ≡ variable_text l.variables l.name
