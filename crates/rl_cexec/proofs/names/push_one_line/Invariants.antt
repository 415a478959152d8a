use Rattle.std.proofs.Common.{◌≡◌, ◌++◌, take}
use Rattle.rl_cexec.specs.Names.{one_line}
use Rattle.rl_cexec.proofs.names.push_one_line.Given as goal

abbrev pub invariant-loop-b : goal.invariant-loop-b
invariant-loop-b l = l.text.items ≡ l.initial.text.items ++ one_line (take l.b-index l.source)
