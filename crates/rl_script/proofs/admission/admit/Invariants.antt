use Rattle.std.proofs.Common.{◌≡◌, take, drop}
use Rattle.rl_replay.specs.Sessions.{first_fault, fault_from}
use Rattle.rl_script.specs.Course.{Tells}
use Rattle.rl_script.specs.TableNames.{names_in}
use Rattle.rl_script.proofs.admission.admit.Given as goal

-- what is known of the lines past, which have no fault
abbrev pub invariant-loop-line : goal.invariant-loop-line
invariant-loop-line l = record {
  tells : Tells (take l.line-index l.lines) l.course;
  fine : first_fault (names_in l.tables) l.lines ≡ fault_from (names_in l.tables) l.lines (take l.line-index l.lines) (drop l.line-index l.lines);
}
