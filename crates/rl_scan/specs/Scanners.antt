-- When a machine is a scanner's, and why a scanner has none.
use Rattle.std.specs.Prelude.{◌≡◌, ◌↔◌, ℕ, ◌<◌, List, [], ◌∷◌, length, Option, Some, None}
use Rattle.std.specs.Option.{option_map}
use Rattle.rl_types.specs.declared.numbers.ActionId.{ActionId}
use Rattle.rl_labels.specs.Labels.{numbers}
use Rattle.rl_automata.specs.Auto.{Auto}
use Rattle.rl_automata.specs.Marks.{auto}
use Rattle.rl_automata.specs.Scans.{Pattern, PatternMarks, ArePatternsHonest, scan_raw, scan_auto, scan_jams, token_list}
use Rattle.rl_automata.specs.Refused.{first_empty}
use Rattle.rl_fsm.specs.Graphs.{Graph}
use Rattle.rl_fsm.specs.Builds.{Builds, StandsFor}
use Rattle.rl_explore.specs.declared.fault.BuildFault.{BuildFault}
use Rattle.rl_explore.specs.declared.fault.BuildFault.TheVariants.{L6, L8, F12, F15, Memory}
use Rattle.rl_explore.specs.Numbers.{IsCause, HasNoCause}
use Rattle.rl_scan.specs.Beside.{side_auto, side_jams, first_empty_from}
use Rattle.rl_fsm.specs.Scanned.{Scanned, token_at}

-- The machine is the automaton's reachable part, and each of its states has the token list of the configuration that it is.
pub record BuildsScanner {S : Type 0} (A : Auto S) (list_of : S → Option (List ℕ)) (s : Scanned) : Type 0 where
  pub machine : Builds A s.machine
  pub tokens : (i : ℕ) → i < length s.machine.states → option_map numbers (token_at s.tokens i) ≡ list_of (machine.name i)

-- it is the scanner's of these patterns, whichever honest tests are taken
abbrev pub ScannerStandsFor : List Pattern → Scanned → Type 0
ScannerStandsFor ps s = (k : PatternMarks ps) → ArePatternsHonest ps k → BuildsScanner (scan_auto ps k) (token_list ps k) s

-- each machine stands for the expression of its pattern, and its token has the pattern's action
abbrev pub StandForPatterns : List Pattern → List Graph → List (Option ActionId) → Type 0
StandForPatterns [] [] [] = Unit {0}
StandForPatterns [] [] (t ∷ ts) = ⊥
StandForPatterns [] (m ∷ ms) ts = ⊥
StandForPatterns (p ∷ ps) [] ts = ⊥
StandForPatterns (p ∷ ps) (m ∷ ms) [] = ⊥
StandForPatterns (p ∷ ps) (m ∷ ms) (t ∷ ts) = StandsFor p.tree m × (p.token ≡ option_map (λ (a : ActionId). a.0) t) × StandForPatterns ps ms ts

-- each machine is built of the automaton of its pattern
abbrev pub AreBuiltOf : (ps : List Pattern) → PatternMarks ps → List Graph → Type 0
AreBuiltOf [] k [] = Unit {0}
AreBuiltOf [] k (m ∷ ms) = ⊥
AreBuiltOf (p ∷ ps) k [] = ⊥
AreBuiltOf (p ∷ ps) k (m ∷ ms) = Builds (auto p.tree k.0) m × AreBuiltOf ps k.1 ms

-- ---- causes

-- no cause for a fault, of the scanner of these machines, which may have `most` configurations
abbrev pub HasNoScanCause : List Graph → ℕ → Type 0
HasNoScanCause ms most = HasNoCause (side_auto ms) (side_jams ms) most × (first_empty_from 0 ms ≡ None)

-- a fault of a scanner, and its cause: the first machine whose start is final is the last that is looked for
abbrev pub IsScanCause : List Graph → ℕ → BuildFault → Type 0
IsScanCause ms most L6 = IsCause (side_auto ms) (side_jams ms) most L6
IsScanCause ms most L8 = IsCause (side_auto ms) (side_jams ms) most L8
IsScanCause ms most F15 = IsCause (side_auto ms) (side_jams ms) most F15
IsScanCause ms most (F12 i) = HasNoCause (side_auto ms) (side_jams ms) most × (first_empty_from 0 ms ≡ Some i)
IsScanCause ms most Memory = Unit {0}

-- the cause of a fault of the scanner of these patterns, by their expressions
abbrev pub IsPatternCause : (ps : List Pattern) → PatternMarks ps → ℕ → BuildFault → Type 0
IsPatternCause ps k most L6 = IsCause (scan_raw ps k) (scan_jams ps k) most L6
IsPatternCause ps k most L8 = IsCause (scan_raw ps k) (scan_jams ps k) most L8
IsPatternCause ps k most F15 = IsCause (scan_raw ps k) (scan_jams ps k) most F15
IsPatternCause ps k most (F12 i) = HasNoCause (scan_raw ps k) (scan_jams ps k) most × (first_empty ps k ≡ Some i)
IsPatternCause ps k most Memory = Unit {0}

-- a fault has its cause by the patterns' expressions exactly where it has it by machines that are built of them
abbrev pub ScannerCauses : Type 0
ScannerCauses = (ps : List Pattern) (k : PatternMarks ps) (ms : List Graph) → AreBuiltOf ps k ms → (most : ℕ) (e : BuildFault) → IsScanCause ms most e ↔ IsPatternCause ps k most e
