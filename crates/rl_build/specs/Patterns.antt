-- What building the patterns of a scanner gives.
use Rattle.std.specs.Prelude.{◌≡◌, ℕ, List, [], ◌∷◌, ◌++◌, map, sum_by, Result, MatchResult}
use Rattle.rl_types.specs.declared.alphabet.Alphabet.{Alphabet}
use Rattle.rl_automata.specs.Scans.{Pattern, Scanner}
use Rattle.rl_classes.specs.Sets.{range_count}
use Rattle.rl_explore.specs.declared.fault.BuildFault.{BuildFault}
use Rattle.rl_fsm.specs.Scanned.{Scanned}
use Rattle.rl_fsm.specs.declared.root.EntryFsm.TheVariants as F
use Rattle.rl_model.specs.Counts.{size_of}
use Rattle.rl_build.specs.declared.built.Built.{Built}
use Rattle.rl_build.specs.declared.built.Refused.{Refused}
use Rattle.rl_build.specs.declared.patterns.Row.{Row}
use Rattle.rl_build.specs.Chains.{AreBuilt}
use Rattle.rl_build.specs.Entries.{IsEntryBuilt, IsRootRefused}

-- how many nodes the patterns have together
abbrev pub nodes_in : List Pattern → ℕ
nodes_in ps = sum_by (λ (p : Pattern). size_of p.tree) ps

-- how many ranges the sets of these have together
abbrev pub ranges_together : List Built → ℕ
ranges_together bs = sum_by (λ (b : Built). range_count b.cells.sets.items) bs

-- each of the patterns is built, and they have so many nodes
pub record IsRow (alphabet : Alphabet) (ps : List Pattern) (row : Row) : Type 0 where
  pub built : AreBuilt alphabet (map (λ (p : Pattern). p.tree) ps) row.patterns.items
  pub count : row.nodes ≡ nodes_in ps

-- the patterns with one more; or its first refused node is told, whatever patterns come behind
abbrev pub IsRowWith : Alphabet → List Pattern → Pattern → Result Row Refused → Type 0
IsRowWith alphabet ps p r = MatchResult r (IsRow alphabet (ps ++ p ∷ [])) (λ x. (back : List Pattern) → IsRootRefused alphabet (Scanner (ps ++ p ∷ back)) x)

-- a machine of the scanner, or a fault of its own node, which has this number
abbrev pub IsScannerMadeFor : Alphabet → List Pattern → ℕ → Result Scanned BuildFault → Type 0
IsScannerMadeFor alphabet ps n r =
    MatchResult r (λ (s : Scanned). IsEntryBuilt alphabet (Scanner ps) (F.Scanner s)) (λ (e : BuildFault). IsRootRefused alphabet (Scanner ps) (record { fault = e; node = n }))
