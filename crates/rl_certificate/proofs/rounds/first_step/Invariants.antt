use Rattle.rl_certificate.specs.Tables.{words_of}
use Rattle.rl_certificate.proofs.RoundSteps.{IsPassed}
use Rattle.rl_certificate.proofs.rounds.first_step.Given as goal

abbrev pub invariant-loop-i : goal.invariant-loop-i
invariant-loop-i l = IsPassed l.min l.steps.letters.items l.count (words_of l.table) l.fn.pair.low l.fn.pair.high l.i
