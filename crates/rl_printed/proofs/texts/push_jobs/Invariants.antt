use Rattle.std.proofs.Common.{◌≡◌, ◌++◌, take}
use Rattle.std.specs.Prelude.{flat_map}
use Rattle.rl_printed.specs.Printed.{job_text}
use Rattle.rl_printed.proofs.texts.push_jobs.Given as goal

abbrev pub invariant-loop-job : goal.invariant-loop-job
invariant-loop-job l = l.text.items ≡ l.initial.text.items ++ flat_map (job_text l.specs l.tables) (take l.job-index l.jobs)
