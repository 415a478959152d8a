use Rattle.std.proofs.Common.{◌≡◌, ◌++◌, drop}
use Rattle.rl_cexec.specs.Names.{filled, filled_from}
use Rattle.rl_cexec.proofs.names.push_filled.Given as goal

abbrev pub invariant-loop-at : goal.invariant-loop-at
invariant-loop-at l =
    l.text.items ++ filled_from l.machine l.frame l.fresh (drop l.at l.template) ≡ l.initial.text.items ++ filled l.machine l.frame l.template
