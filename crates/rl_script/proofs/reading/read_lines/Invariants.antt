use Rattle.std.proofs.Common.{◌≡◌, ◌+◌, ◌≤◌, length}
use Rattle.rl_replay.specs.Script.{events_from, lines_of, read_script}
use Rattle.rl_script.specs.Reading.{behind}
use Rattle.rl_script.proofs.reading.read_lines.Given as goal

-- the lines so far, and those that are left
abbrev pub invariant-lines : goal.invariant-lines
invariant-lines l = record {
  came : behind l.lines (events_from l.number (lines_of l.rest)) ≡ read_script l.text;
  room : l.number + length l.rest ≤ length l.text + 1;
}

abbrev pub decreases-lines : goal.decreases-lines
decreases-lines l = length l.rest
