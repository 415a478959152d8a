-- What building the entries of a specification gives.
use Rattle.std.specs.Prelude.{◌≡◌, ◌≢◌, ℕ, ◌+◌, ◌<◌, ◌≤◌, List, [], ◌∷◌, length, sum_by, Some, IfSome}
use Rattle.rl_types.specs.Limits.{most_configurations, most_nodes}
use Rattle.rl_types.specs.declared.alphabet.Alphabet.{Alphabet}
use Rattle.rl_automata.specs.Scans.{Pattern, Root, Plain, Scanner}
use Rattle.rl_automata.specs.Sites.{RootMarks, IsRootHonest, root_sites}
use Rattle.rl_automata.specs.Refused.{IsFirstRefused}
use Rattle.rl_explore.specs.declared.fault.BuildFault.{BuildFault}
use Rattle.rl_explore.specs.declared.fault.BuildFault.TheVariants.{L6, L8, F12, F15, Memory}
use Rattle.rl_fsm.specs.declared.root.EntryFsm.{EntryFsm}
use Rattle.rl_fsm.specs.declared.root.EntryFsm.TheVariants as F
use Rattle.rl_fsm.specs.Builds.{StandsFor}
use Rattle.rl_fsm.specs.Roots.{states_of}
use Rattle.rl_scan.specs.Scanners.{ScannerStandsFor}
use Rattle.rl_model.specs.declared.spec.Entry as rust_entry
use Rattle.rl_model.specs.declared.spec.Spec.{Spec}
use Rattle.rl_model.specs.Counts.{size_of, root_size}
use Rattle.rl_model.specs.Specification.{root_of}
use Rattle.rl_model.specs.RefusedNode.{cause_place, IsRefusedAt}
use Rattle.rl_model.specs.WellFormed.{HasPlaces}
use Rattle.rl_build.specs.declared.built.Refused.{Refused}
use Rattle.rl_build.specs.declared.fault.BuildRefusal.{BuildRefusal}
use Rattle.rl_build.specs.Trees.{cause_of, AreAccepted, ranges_in, wrong_numbers, IsFit}

-- ---- entries that are ready to be built

-- patterns that are together not too large
pub record ArePatternsFit (ps : List Pattern) : Type 0 where
  pub some : ps ≢ []
  pub nodes : sum_by (λ (p : Pattern). size_of p.tree) ps + 1 ≤ most_nodes
  pub ranges : sum_by (λ (p : Pattern). ranges_in p.tree) ps ≤ 25600000
  pub conditions : sum_by (λ (p : Pattern). wrong_numbers p.tree) ps ≡ 0

-- an expression that is not too large, or such patterns
abbrev pub IsFitRoot : Root → Type 0
IsFitRoot (Plain t) = IsFit t
IsFitRoot (Scanner ps) = ArePatternsFit ps

-- with the places of its nodes
pub record IsReadyEntry (e : rust_entry.Entry) : Type 0 where
  pub fit : IsFitRoot (root_of e.root)
  pub places : HasPlaces e

-- ---- machines

-- the machine stands for the entry's expression, or for the patterns of its scanner
abbrev pub IsMachineOf : Root → EntryFsm → Type 0
IsMachineOf (Plain t) (F.Plain m) = StandsFor t m
IsMachineOf (Plain t) (F.Scanner s) = ⊥
IsMachineOf (Scanner ps) (F.Plain m) = ⊥
IsMachineOf (Scanner ps) (F.Scanner s) = ScannerStandsFor ps s

-- each entry has its machine
abbrev pub AreMachinesOf : List Root → List EntryFsm → Type 0
AreMachinesOf [] [] = Unit {0}
AreMachinesOf [] (m ∷ ms) = ⊥
AreMachinesOf (x ∷ xs) [] = ⊥
AreMachinesOf (x ∷ xs) (m ∷ ms) = IsMachineOf x m × AreMachinesOf xs ms

-- the refusal tells the first node that is refused, with its cause and its place; or it is want of memory
abbrev pub TellsRefusal : Spec → BuildRefusal → Type 0
TellsRefusal spec r = IfSome (cause_of r.fault) (λ cause. IsRefusedAt spec cause r.place)

-- ---- one entry

-- the entry is built: its machine stands for it, it has honest tests, and none of its nodes is refused
pub record IsEntryBuilt (alphabet : Alphabet) (x : Root) (m : EntryFsm) : Type 0 where
  pub machine : IsMachineOf x m
  pub tests : (k : RootMarks x) × IsRootHonest x k
  pub accepted : (k : RootMarks x) → IsRootHonest x k → AreAccepted alphabet (root_sites x k)
  pub few : states_of m ≤ most_configurations

-- the patterns of a scanner; an expression has none
abbrev pub patterns_in : Root → List Pattern
patterns_in (Plain t) = []
patterns_in (Scanner ps) = ps

-- if the fault names a pattern, the entry has one of this number
abbrev pub NamesPattern : Root → BuildFault → Type 0
NamesPattern x L6 = Unit {0}
NamesPattern x L8 = Unit {0}
NamesPattern x (F12 j) = j < length (patterns_in x)
NamesPattern x F15 = Unit {0}
NamesPattern x Memory = Unit {0}

-- the node of this number is the first of the entry that is refused, for the cause of this fault
pub record IsRootRefused (alphabet : Alphabet) (x : Root) (r : Refused) : Type 0 where
  pub within : r.node < root_size x
  pub names : NamesPattern x r.fault
  pub first : IfSome (cause_of r.fault) (λ cause. (k : RootMarks x) × IsFirstRefused alphabet (root_sites x k) r.node cause)

-- one of the entry's nodes is the first of them that is refused, and this is its place
abbrev pub IsEntryRefused : Alphabet → rust_entry.Entry → BuildRefusal → Type 0
IsEntryRefused alphabet e r =
    IfSome (cause_of r.fault) (λ cause. (i : ℕ) × (k : RootMarks (root_of e.root)) × IsFirstRefused alphabet (root_sites (root_of e.root) k) i cause × (cause_place e i cause ≡ Some r.place))

-- each of the entries is built
abbrev pub AreEntriesBuilt : Alphabet → List rust_entry.Entry → List EntryFsm → Type 0
AreEntriesBuilt alphabet [] [] = Unit {0}
AreEntriesBuilt alphabet [] (m ∷ ms) = ⊥
AreEntriesBuilt alphabet (e ∷ es) [] = ⊥
AreEntriesBuilt alphabet (e ∷ es) (m ∷ ms) = IsEntryBuilt alphabet (root_of e.root) m × AreEntriesBuilt alphabet es ms
