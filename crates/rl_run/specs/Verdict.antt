-- What is told of a run.
use Rattle.std.specs.Prelude.{Bool, Option, Some, if◌then◌else◌}
use Rattle.rl_run.specs.declared.calls.Outcome.{Outcome}
use Rattle.rl_run.specs.declared.calls.Outcome.TheVariants.{Stopped}
use Rattle.rl_run.specs.declared.calls.Verdict.{Verdict}
use Rattle.rl_run.specs.declared.calls.Verdict.TheVariants.{Final, Partial, Error}
use Rattle.rl_run.specs.Machine.{Machine}
use Rattle.rl_run.specs.Run.{Rest}

-- Error where the run stopped, else whether its state is final
abbrev pub verdict_by : Option Outcome → Bool → Verdict
verdict_by (Some (Stopped cause)) final = Error
verdict_by _ final = if final then Final else Partial

abbrev pub verdict_of : {S : Type 0} → Machine S → Rest S → Verdict
verdict_of m r = verdict_by r.outcome (m.final r.session.state)
