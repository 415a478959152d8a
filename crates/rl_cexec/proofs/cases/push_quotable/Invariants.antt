use Rattle.std.proofs.Common.{◌≡◌, ◌++◌, map, take}
use Rattle.rl_cexec.specs.Texts.{quotable}
use Rattle.rl_cexec.proofs.cases.push_quotable.Given as goal

abbrev pub invariant-loop-b : goal.invariant-loop-b
invariant-loop-b l = l.text.items ≡ l.initial.text.items ++ map quotable (take l.b-index l.name)
