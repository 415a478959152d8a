use Rattle.std.proofs.Common.{◌≡◌, ◌++◌, map, length}
use Rattle.std.specs.List.{flat_map, zip}
use Rattle.rl_arrays.specs.Section.{line_text, entry_line}
use Rattle.rl_cdata.proofs.head.push_entry_lines.Given as goal

-- what is written, and the lines of the entries that are left
abbrev pub invariant-loop-entry : goal.invariant-loop-entry
invariant-loop-entry l =
    l.text.items ++ flat_map line_text (map (entry_line l.name) (zip l.names l.numbers))
    ≡ l.initial.text.items ++ flat_map line_text (map (entry_line l.name) (zip l.entries l.states))

abbrev pub decreases-loop-entry : goal.decreases-loop-entry
decreases-loop-entry l = length l.names
