-- The status of each end of a program (this profile).
use Rattle.std.specs.Prelude.{Result, Ok, Err}
use Rattle.rl_types.specs.declared.status.Status.{Status}
use Rattle.rl_types.specs.declared.status.Status.TheVariants as statuses
use Rattle.rl_cread.specs.declared.fault.TableFault.{TableFault}
use Rattle.rl_cread.specs.declared.fault.TableFault.TheVariants as marks
use Rattle.rl_replay.specs.declared.script.ScriptFault.{ScriptFault}
use Rattle.rl_replay.specs.declared.script.ScriptFault.TheVariants as faults
use Rattle.rl_ends.specs.declared.refusal.Refusal.{Refusal}
use Rattle.rl_ends.specs.declared.refusal.Refusal.TheVariants as refusals

-- the status of a section that is not right
abbrev pub status_by_section : TableFault → Status
status_by_section marks.Memory = statuses.Memory
status_by_section _ = statuses.Tables

-- the status of a script with a fault
abbrev pub status_by_script : ScriptFault → Status
status_by_script faults.Memory = statuses.Memory
status_by_script _ = statuses.Script

-- the status of an end
abbrev pub status_of : {T : Type 0} → Result T Refusal → Status
status_of (Ok done) = statuses.Done
status_of (Err refusals.Usage) = statuses.Usage
status_of (Err (refusals.Fault fault file)) = statuses.Source
status_of (Err (refusals.Limit limit file)) = statuses.Limit
status_of (Err (refusals.Missing file)) = statuses.Outside
status_of (Err (refusals.StoreFailed file)) = statuses.Outside
status_of (Err (refusals.Section fault file)) = status_by_section fault
status_of (Err (refusals.Script fault file)) = status_by_script fault
status_of (Err refusals.InputFailed) = statuses.Outside
status_of (Err refusals.OutputFailed) = statuses.Outside
status_of (Err refusals.Memory) = statuses.Memory
