-- Which states have no way on.
use Rattle.std.specs.Prelude.{Bool, List}
use Rattle.rl_automata.specs.Scans.{Pattern, Confs, PatternMarks, ArePatternsHonest, scan_auto, TellsClosed}
use Rattle.rl_fsm.specs.Scanned.{Scanned}
use Rattle.rl_scan.specs.Scanners.{ScannerStandsFor}

-- a scanner that a machine stands for has an honest test of the configurations that have no way on
abbrev pub ScannersHaveTests : Type 0
ScannersHaveTests = (ps : List Pattern) (k : PatternMarks ps) → ArePatternsHonest ps k → (s : Scanned) → ScannerStandsFor ps s → (closed : Confs ps → Bool) × TellsClosed (scan_auto ps k) closed
