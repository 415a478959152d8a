use Rattle.std.proofs.Common.{◌≡◌, ◌++◌, drop}
use Rattle.rl_cexec.specs.Texts.{cases_from}
use Rattle.rl_cexec.proofs.cases.push_cases.Given as goal

-- what is written, and the cases of the actions that are left
abbrev pub invariant-loop-k : goal.invariant-loop-k
invariant-loop-k l =
    l.text.items ++ cases_from l.spec l.a l.frame l.switch l.k (drop l.k l.names)
    ≡ l.initial.text.items ++ cases_from l.spec l.a l.frame l.switch 1 (drop 1 l.names)
