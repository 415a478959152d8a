use Rattle.std.proofs.Common.{take}
use Rattle.std.specs.Prelude.{All}
use Rattle.rl_resolve.specs.Answers.{IsFormed}
use Rattle.rl_resolve.proofs.looks.check_forms.Given as goal

abbrev pub invariant-loop-spec : goal.invariant-loop-spec
invariant-loop-spec l = All IsFormed (take l.spec-index l.specs)
