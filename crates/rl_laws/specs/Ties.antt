-- Priorities that have one stamp: where they are one, all ways to join tables are `lead`.
use Rattle.std.specs.Prelude.{◌≡◌, List, [], ◌++◌, map, Some, All}
use Rattle.std.specs.List.{flat_map}
use Rattle.rl_types.specs.declared.numbers.Letter.{Letter}
use Rattle.rl_sets.specs.Sets.{In}
use Rattle.rl_labels.specs.declared.priors.Prior.{Prior}
use Rattle.rl_labels.specs.declared.carry.Carry.{Carry}
use Rattle.rl_labels.specs.Labels.{IsTable}
use Rattle.rl_labels.specs.Carries.{all_of}
use Rattle.rl_automata.specs.declared.moves.Move.{Move}
use Rattle.rl_automata.specs.Nodes as n
use Rattle.rl_automata.specs.Auto.{Auto}
use Rattle.rl_automata.specs.Nodes.{Node, carry_of}
use Rattle.rl_automata.specs.Marks.{Marks, auto}
use Rattle.rl_automata.specs.Scans.{Pattern, PatternMarks, Scanner, scan_auto}
use Rattle.rl_model.specs.Counts.{trees_of}
use Rattle.rl_draft.specs.declared.draft.Draft.{Draft}
use Rattle.rl_rewrite.specs.Entries.{Made, meanings, entries}
use Rattle.rl_laws.specs.Priorities.{led}

-- the priorities that an expression embeds
abbrev pub priors_in : Node → List Prior
priors_in (n.Set ranges) = []
priors_in n.Null = []
priors_in n.Nothing = []
priors_in (n.Union a b) = priors_in a ++ priors_in b
priors_in (n.And a b) = priors_in a ++ priors_in b
priors_in (n.Minus a b) = priors_in a ++ priors_in b
priors_in (n.Cat a b) = priors_in a ++ priors_in b
priors_in (n.Star a base) = priors_in a
priors_in (n.Enter a l) = (carry_of l).table ++ priors_in a
priors_in (n.Finish a l) = (carry_of l).table ++ priors_in a
priors_in (n.All a l) = (carry_of l).table ++ priors_in a
priors_in (n.Leave a l) = (carry_of l).table ++ priors_in a
priors_in (n.Mark a class kind stamp action) = priors_in a
priors_in (n.When a condition) = priors_in a

-- two of them that have one stamp have one name and one value
abbrev pub StampsTell : List Prior → Type 0
StampsTell ps = (p q : Prior) → In p ps → In q ps → p.stamp ≡ q.stamp → p ≡ q

-- all that stands in one list stands in the other
abbrev pub AreAmong : List Prior → List Prior → Type 0
AreAmong ps qs = (p : Prior) → In p ps → In p qs

-- it is so within each entry of each draft, also of a scanner's patterns together
abbrev pub StampsTellPriorities : Type 0
StampsTellPriorities =
    (draft : Draft) → All (λ (m : Made). StampsTell (flat_map priors_in (trees_of m.root))) (entries [] (meanings draft))

-- a table of priorities of these
pub record IsTableOf (ps : List Prior) (table : List Prior) : Type 0 where
  pub is_table : IsTable table
  pub among : AreAmong table ps

-- each step and each configuration of an automaton carries a table of these priorities
pub record CarriesTablesOf {S : Type 0} (ps : List Prior) (A : Auto S) : Type 0 where
  pub step : (c : S) (l : Letter) (m : Move S) → A.step c l ≡ Some m → IsTableOf ps m.carry.table
  pub out : (c : S) → IsTableOf ps (A.out c).table

-- of the priorities that the expression embeds
abbrev pub ExpressionsCarryTables : Type 0
ExpressionsCarryTables = (t : Node) (k : Marks t) → CarriesTablesOf (priors_in t) (auto t k)

-- of the priorities that the patterns of the scanner embed
abbrev pub ScannersCarryTables : Type 0
ScannersCarryTables = (patterns : List Pattern) (k : PatternMarks patterns) → CarriesTablesOf (flat_map priors_in (trees_of (Scanner patterns))) (scan_auto patterns k)

-- of such priorities, what is carried together has the tables put over one another by `lead`
abbrev pub JoinsLead : Type 0
JoinsLead =
    (ps : List Prior) → StampsTell ps
    → (cs : List Carry) → ((c : Carry) → In c cs → IsTableOf ps c.table)
    → (all_of cs).table ≡ led (map (λ c. c.table) cs)
