use Rattle.rl_run.proofs.Answers.{is_continued, is_stopped}
use Rattle.rl_run.proofs.Stands.{is_standing}
use Rattle.rl_run.proofs.laws.runs_are_continued.Goals as goal

pub returns-clause-goes_on : goal.returns-clause-goes_on
returns-clause-goes_on c = λ m. is_continued m

pub returns-clause-stays : goal.returns-clause-stays
returns-clause-stays c = λ m. is_stopped m

pub returns-clause-stands : goal.returns-clause-stands
returns-clause-stands c = λ m. is_standing m
