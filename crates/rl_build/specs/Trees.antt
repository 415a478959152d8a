-- What building an expression gives.
use Rattle.std.specs.Prelude.{◌≡◌, ℕ, ◌+◌, ◌<◌, ◌≤◌, ◌&&◌, cond, nat_le, List, length, Option, Some, None, Result, MatchResult}
use Rattle.rl_types.specs.Limits.{most_configurations, most_nodes}
use Rattle.rl_types.specs.declared.alphabet.Alphabet.{Alphabet}
use Rattle.rl_sets.specs.Sets.{In}
use Rattle.rl_automata.specs.Nodes as N
use Rattle.rl_automata.specs.Nodes.{Node}
use Rattle.rl_automata.specs.Marks.{Marks, AreHonest, HasMarks}
use Rattle.rl_automata.specs.Sites.{Below, AreHonestBelow, Site, sites}
use Rattle.rl_automata.specs.Refused as refused
use Rattle.rl_automata.specs.Refused.{Cause, IsAccepted, IsFirstRefused, sets_in, conditions_in}
use Rattle.rl_classes.specs.Sets.{range_count}
use Rattle.rl_explore.specs.declared.fault.BuildFault.{BuildFault}
use Rattle.rl_explore.specs.declared.fault.BuildFault.TheVariants.{L6, L8, F12, F15, Memory}
use Rattle.rl_fsm.specs.Builds.{StandsFor}
use Rattle.rl_model.specs.Counts.{size_of}
use Rattle.rl_build.specs.declared.built.Built.{Built}
use Rattle.rl_build.specs.declared.built.Refused.{Refused}
use Rattle.rl_build.specs.Cells.{AreCells}
use Rattle.rl_build.specs.Nodes.{sites_below}

-- the cause of a fault; want of memory has none
abbrev pub cause_of : BuildFault → Option Cause
cause_of L6 = Some refused.L6
cause_of L8 = Some refused.L8
cause_of (F12 i) = Some (refused.F12 i)
cause_of F15 = Some refused.F15
cause_of Memory = None

-- what is told of the cause of a fault; no node of an expression is refused for F12
abbrev pub OfCause : BuildFault → (Cause → Type 0) → Type 0
OfCause L6 Says = Says refused.L6
OfCause L8 Says = Says refused.L8
OfCause (F12 i) Says = ⊥
OfCause F15 Says = Says refused.F15
OfCause Memory Says = Unit {0}

-- each of the sites is accepted
abbrev pub AreAccepted : Alphabet → List Site → Type 0
AreAccepted alphabet xs = (x : Site) → In x xs → IsAccepted alphabet x

-- the expression is built: its machine stands for it, it has honest tests, and none of its nodes is refused
pub record IsBuilt (alphabet : Alphabet) (t : Node) (b : Built) : Type 0 where
  pub stands : StandsFor t b.machine
  pub tests : HasMarks t
  pub accepted : (k : Marks t) → AreHonest t k → AreAccepted alphabet (sites t k)
  pub few : length b.machine.states ≤ most_configurations
  pub cells : AreCells alphabet (sets_in t) (conditions_in t) b.cells
  pub count : b.nodes ≡ size_of t

-- the node of this number is the first of the expression that is refused, for the cause of this fault
pub record IsRefused (alphabet : Alphabet) (t : Node) (r : Refused) : Type 0 where
  pub within : r.node < size_of t
  pub first : OfCause r.fault (λ cause. (k : Marks t) × IsFirstRefused alphabet (sites t k) r.node cause)

-- the expression is built, or its first refused node is told
abbrev pub IsAnswer : Alphabet → Node → Result Built Refused → Type 0
IsAnswer alphabet t r = MatchResult r (IsBuilt alphabet t) (IsRefused alphabet t)

-- the operands of a node are built, and have so many nodes
pub record AreOperandsBuilt (alphabet : Alphabet) (t : Node) (count : ℕ) : Type 0 where
  pub tests : (k : Below t) × AreHonestBelow t k
  pub accepted : (k : Below t) → AreHonestBelow t k → AreAccepted alphabet (sites_below t k)
  pub size : size_of t ≡ count + 1

-- ---- sizes

-- how many ranges its sets have together
abbrev pub ranges_in : Node → ℕ
ranges_in (N.Set ranges) = length ranges
ranges_in N.Null = 0
ranges_in N.Nothing = 0
ranges_in (N.Union a b) = ranges_in a + ranges_in b
ranges_in (N.And a b) = ranges_in a + ranges_in b
ranges_in (N.Minus a b) = ranges_in a + ranges_in b
ranges_in (N.Cat a b) = ranges_in a + ranges_in b
ranges_in (N.Star a n) = ranges_in a
ranges_in (N.Enter a l) = ranges_in a
ranges_in (N.Finish a l) = ranges_in a
ranges_in (N.All a l) = ranges_in a
ranges_in (N.Leave a l) = ranges_in a
ranges_in (N.Mark a class kind s x) = ranges_in a
ranges_in (N.When a c) = ranges_in a

-- a condition has a number from 1 to 8: 1 where this is another one
abbrev pub wrong_number : ℕ → ℕ
wrong_number c = cond (nat_le 1 c && nat_le c 8) 0 1

-- how many of its conditions have another number
abbrev pub wrong_numbers : Node → ℕ
wrong_numbers (N.Set ranges) = 0
wrong_numbers N.Null = 0
wrong_numbers N.Nothing = 0
wrong_numbers (N.Union a b) = wrong_numbers a + wrong_numbers b
wrong_numbers (N.And a b) = wrong_numbers a + wrong_numbers b
wrong_numbers (N.Minus a b) = wrong_numbers a + wrong_numbers b
wrong_numbers (N.Cat a b) = wrong_numbers a + wrong_numbers b
wrong_numbers (N.Star a n) = wrong_numbers a
wrong_numbers (N.Enter a l) = wrong_numbers a
wrong_numbers (N.Finish a l) = wrong_numbers a
wrong_numbers (N.All a l) = wrong_numbers a
wrong_numbers (N.Leave a l) = wrong_numbers a
wrong_numbers (N.Mark a class kind s x) = wrong_numbers a
wrong_numbers (N.When a c) = wrong_number c + wrong_numbers a

-- an expression of a well-formed specification
pub record IsFit (t : Node) : Type 0 where
  pub nodes : size_of t ≤ most_nodes
  pub ranges : ranges_in t ≤ 25600000
  pub conditions : wrong_numbers t ≡ 0

-- the same of two expressions and an operator on them
pub record AreFit (s t : Node) : Type 0 where
  pub nodes : size_of s + size_of t + 1 ≤ most_nodes
  pub ranges : ranges_in s + ranges_in t ≤ 25600000
  pub conditions : wrong_numbers s + wrong_numbers t ≡ 0

pub record IsSmall (b : Built) : Type 0 where
  pub nodes : b.nodes ≤ most_nodes
  pub ranges : range_count b.cells.sets.items ≤ 25600000

abbrev pub IsSmallAnswer : Result Built Refused → Type 0
IsSmallAnswer r = MatchResult r IsSmall (λ (x : Refused). x.node ≤ most_nodes)
