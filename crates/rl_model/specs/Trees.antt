-- The tree machine: the machine that the expressions of a specification themselves are.
use Rattle.std.specs.Prelude.{ℕ, zero, suc, Bool, true, false, List, [], ◌∷◌, Option, Some, None, length}
use Rattle.rl_types.specs.Alphabet.{width_of, key_of}
use Rattle.rl_automata.specs.Nodes.{Nothing, Conf}
use Rattle.rl_automata.specs.Marks.{Marks, auto, AreHonest}
use Rattle.rl_automata.specs.Scans.{Confs, PatternMarks, ArePatternsHonest, scan_auto, token_list, TellsClosed}
use Rattle.rl_run.specs.Machine.{Machine}
use Rattle.rl_model.specs.Specification.{Root, Plain, Scanner, Specification, roots_of, entry_name_at, action_name_at, condition_name_at, statement_at}
use Rattle.rl_model.specs.Parts.{Part, Context, EntryState, machine}

-- ---- one entry

abbrev pub RootConf : Root → Type 0
RootConf (Plain t) = Conf t
RootConf (Scanner ps) = Confs ps

-- the tests of an entry: what can still end at each node that prunes, and which states of a scanner no letter leaves
abbrev pub Tests : Root → Type 0
Tests (Plain t) = Marks t
Tests (Scanner ps) = PatternMarks ps × (Confs ps → Bool)

-- the tests tell the truth
abbrev pub IsHonest : (x : Root) → Tests x → Type 0
IsHonest (Plain t) k = AreHonest t k
IsHonest (Scanner ps) k = ArePatternsHonest ps k.0 × TellsClosed (scan_auto ps k.0) k.1

abbrev pub list_or : Option (List ℕ) → List ℕ
list_or None = []
list_or (Some xs) = xs

abbrev pub root_part : (x : Root) → Tests x → Part (RootConf x)
root_part (Plain t) k = record { auto = auto t k; is_scanner = false; token = λ c. []; closed = λ c. false }
root_part (Scanner ps) k = record { auto = scan_auto ps k.0; is_scanner = true; token = λ c. list_or (token_list ps k.0 c); closed = k.1 }

-- ---- all entries

-- the e-th entry, from 1; past the end one without words
abbrev pub root_at : List Root → ℕ → Root
root_at [] e = Plain Nothing
root_at (x ∷ xs) zero = Plain Nothing
root_at (x ∷ xs) (suc zero) = x
root_at (x ∷ xs) (suc (suc e)) = root_at xs (suc e)

abbrev pub AllTests : List Root → Type 0
AllTests [] = Unit {0}
AllTests (x ∷ xs) = Tests x × AllTests xs

abbrev pub AreAllHonest : (xs : List Root) → AllTests xs → Type 0
AreAllHonest [] k = Unit {0}
AreAllHonest (x ∷ xs) k = IsHonest x k.0 × AreAllHonest xs k.1

abbrev pub tests_at : (xs : List Root) → AllTests xs → (e : ℕ) → Tests (root_at xs e)
tests_at [] k e = tt
tests_at (x ∷ xs) k zero = tt
tests_at (x ∷ xs) k (suc zero) = k.0
tests_at (x ∷ xs) k (suc (suc e)) = tests_at xs k.1 (suc e)

-- ---- the machine

-- the configurations of the e-th entry
abbrev pub ConfAt : Specification → ℕ → Type 0
ConfAt spec e = RootConf (root_at (roots_of spec) e)

-- a state of the tree machine: Error, or an entry's number and a configuration
abbrev pub TreeState : Specification → Type 0
TreeState spec = EntryState (ConfAt spec)

abbrev pub TestsOf : Specification → Type 0
TestsOf spec = AllTests (roots_of spec)

abbrev pub AreTestsHonest : (spec : Specification) → TestsOf spec → Type 0
AreTestsHonest spec k = AreAllHonest (roots_of spec) k

-- there are tests that tell the truth
abbrev pub HasHonestTests : Specification → Type 0
HasHonestTests spec = (k : TestsOf spec) × AreTestsHonest spec k

abbrev pub part_of : (spec : Specification) → TestsOf spec → (e : ℕ) → Part (ConfAt spec e)
part_of spec k e = root_part (root_at (roots_of spec) e) (tests_at (roots_of spec) k e)

abbrev pub context_of : Specification → Context
context_of spec = record {
  width = width_of spec.alphabet;
  key_of = key_of spec.alphabet;
  statement = statement_at spec.actions;
  action_name = action_name_at spec.actions;
  condition_name = condition_name_at spec.actions spec.conditions;
  entry_name = entry_name_at spec.entries;
}

abbrev pub tree_machine : (spec : Specification) → TestsOf spec → Machine (TreeState spec)
tree_machine spec k = machine (ConfAt spec) (part_of spec k) (length spec.entries) (context_of spec)
