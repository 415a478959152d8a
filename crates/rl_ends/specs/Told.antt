-- The line that each end of a program is told by, and what the error output gains of it (this profile).
use Rattle.std.specs.Prelude.{◌≡◌, ◌⊎◌, ℕ, List, [], ◌++◌, Option, Result, Ok, Err, codes, decimal}
use Rattle.rl_types.specs.declared.faults.FaultKind.{FaultKind}
use Rattle.rl_types.specs.declared.faults.FaultKind.TheVariants as f
use Rattle.rl_types.specs.declared.faults.LimitKind.{LimitKind}
use Rattle.rl_types.specs.declared.faults.LimitKind.TheVariants as l
use Rattle.rl_types.specs.declared.numbers.Place.{Place}
use Rattle.rl_io.specs.Outside.{Rose, Appends, AppendsPrefix}
use Rattle.rl_io.specs.declared.outside.SinkFault.{SinkFault}
use Rattle.rl_io.specs.declared.outside.SinkFault.TheVariants as sink
use Rattle.rl_arrays.specs.Section.{word}
use Rattle.rl_cread.specs.declared.fault.TableFault.{TableFault}
use Rattle.rl_cread.specs.declared.fault.TableFault.TheVariants as marks
use Rattle.rl_replay.specs.declared.script.ScriptFault.{ScriptFault}
use Rattle.rl_replay.specs.declared.script.ScriptFault.TheVariants as faults
use Rattle.rl_ends.specs.declared.refusal.Refusal.{Refusal}
use Rattle.rl_ends.specs.declared.refusal.Refusal.TheVariants as refusals

-- the number of a fault, and what it is
abbrev pub words_of_fault : FaultKind → List ℕ
words_of_fault f.F1 = codes "F1 bad character"
words_of_fault f.F2 = codes "F2 unclosed"
words_of_fault f.F3 = codes "F3 syntax"
words_of_fault f.F4 = codes "F4 no machine"
words_of_fault f.F5 = codes "F5 unknown name"
words_of_fault f.F6 = codes "F6 twice"
words_of_fault f.F7 = codes "F7 number"
words_of_fault f.F8 = codes "F8 key range"
words_of_fault f.F9 = codes "F9 range ends"
words_of_fault f.F10 = codes "F10 counts"
words_of_fault f.F11 = codes "F11 scanner place"
words_of_fault f.F12 = codes "F12 zero token"
words_of_fault f.F13 = codes "F13 statement place"
words_of_fault f.F14 = codes "F14 mark in scanner"
words_of_fault f.F15 = codes "F15 priority cycle"
words_of_fault f.F16 = codes "F16 no entry"
words_of_fault f.F17 = codes "F17 include loop"
words_of_fault f.F18 = codes "F18 no instance"
words_of_fault f.F19 = codes "F19 marker"

-- the number of a limit, and what it counts
abbrev pub words_of_limit : LimitKind → List ℕ
words_of_limit l.L1 = codes "L1 bytes"
words_of_limit l.L2 = codes "L2 includes"
words_of_limit l.L3 = codes "L3 parentheses"
words_of_limit l.L4 = codes "L4 nodes"
words_of_limit l.L5 = codes "L5 depth"
words_of_limit l.L6 = codes "L6 configurations"
words_of_limit l.L7 = codes "L7 conditions"
words_of_limit l.L8 = codes "L8 cells"
words_of_limit l.L9 = codes "L9 names"
words_of_limit l.L10 = codes "L10 statements"
words_of_limit l.L11 = codes "L11 states"
words_of_limit l.L12 = codes "L12 input"

-- what is wrong at a place in a file
abbrev pub told_at : List ℕ → Place → List ℕ → List ℕ
told_at file place words = file ++ codes ":" ++ decimal place.line ++ codes ":" ++ decimal place.col ++ codes ": " ++ words ++ codes "\n"

-- what is wrong in a line of a file
abbrev pub told_in_line : List ℕ → ℕ → List ℕ → List ℕ
told_in_line file line words = file ++ codes ":" ++ decimal line ++ codes ": " ++ words ++ codes "\n"

-- the line that a section which is not right is told by
abbrev pub told_section : List ℕ → TableFault → List ℕ
told_section file marks.NoSection = file ++ codes ": no section\n"
told_section file (marks.BadText line) = told_in_line file line (codes "bad text")
told_section file (marks.BadValue bad) = file ++ codes ": bad value in " ++ word bad.array ++ codes " at " ++ decimal bad.index ++ codes "\n"
told_section file marks.Memory = codes "out of memory\n"

-- the line that a fault of a script is told by
abbrev pub told_script : List ℕ → ScriptFault → List ℕ
told_script file (faults.BadLine line) = told_in_line file line (codes "bad line")
told_script file (faults.Twice line) = told_in_line file line (codes "twice")
told_script file (faults.NoSession line) = told_in_line file line (codes "no session")
told_script file (faults.NoEntry line) = told_in_line file line (codes "no entry")
told_script file (faults.NoName line) = told_in_line file line (codes "no name")
told_script file (faults.Full line) = told_in_line file line (codes "full")
told_script file faults.Memory = codes "out of memory\n"

-- the line that a refusal is told by
abbrev pub told_refusal : Refusal → List ℕ
told_refusal refusals.Usage = codes "usage\n"
told_refusal (refusals.Fault fault file) = told_at file fault.place (words_of_fault fault.kind)
told_refusal (refusals.Limit limit file) = told_at file limit.place (words_of_limit limit.kind)
told_refusal (refusals.Missing file) = file ++ codes ": missing\n"
told_refusal (refusals.StoreFailed file) = file ++ codes ": store failed\n"
told_refusal (refusals.Section fault file) = told_section file fault
told_refusal (refusals.Script fault file) = told_script file fault
told_refusal refusals.InputFailed = codes "input failed\n"
told_refusal refusals.OutputFailed = codes "output failed\n"
told_refusal refusals.Memory = codes "out of memory\n"

-- the line on the error output; none where nothing was refused
abbrev pub line_of : {T : Type 0} → Result T Refusal → List ℕ
line_of (Ok done) = []
line_of (Err refusal) = told_refusal refusal

-- the error output gains the line; where it failed it gains a prefix, where memory was wanting nothing
abbrev pub Tells : Option (List ℕ) → Option (List ℕ) → ℕ → ℕ → List ℕ → Type 0
Tells old new before now line = Appends old new line ⊎ (Rose before now × AppendsPrefix old new line) ⊎ (new ≡ old)

-- the same, by what the error output answered
abbrev pub TellsAs : {T : Type 0} → Option (List ℕ) → Option (List ℕ) → ℕ → ℕ → List ℕ → Result T SinkFault → Type 0
TellsAs old new before now line (Ok done) = Appends old new line
TellsAs old new before now line (Err sink.Failed) = Rose before now × AppendsPrefix old new line
TellsAs old new before now line (Err sink.Memory) = new ≡ old
