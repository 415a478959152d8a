-- Unions of many operands, built from all operands at once.
use Rattle.std.specs.Prelude.{◌≡◌, ℕ, ◌≤◌, List, [], ◌∷◌, ◌++◌, Option, Result, MatchResult, IfSome, Vec}
use Rattle.std.specs.declared.alloc.Global.{Global}
use Rattle.rl_types.specs.Limits.{most_nodes}
use Rattle.rl_types.specs.declared.alphabet.Alphabet.{Alphabet}
use Rattle.rl_automata.specs.Nodes as N
use Rattle.rl_automata.specs.Nodes.{Node}
use Rattle.rl_automata.specs.Refused.{sets_in, conditions_in}
use Rattle.rl_unions.specs.Unions.{HaveNoPriors, union_of}
use Rattle.rl_classes.specs.Sets.{range_count}
use Rattle.rl_fsm.specs.Graphs.{Graph}
use Rattle.rl_fsm.specs.Builds.{StandsFor}
use Rattle.rl_model.specs.Counts.{size_of}
use Rattle.rl_build.specs.declared.built.Built.{Built}
use Rattle.rl_build.specs.declared.built.Refused.{Refused}
use Rattle.rl_build.specs.declared.cells.Cells.{Cells}
use Rattle.rl_build.specs.declared.chain.Sums.{Sums}
use Rattle.rl_build.specs.Cells.{AreCells, most_of}
use Rattle.rl_build.specs.Trees.{IsBuilt, IsRefused}

-- the expression is no union
abbrev pub IsNoUnion : Node → Type 0
IsNoUnion (N.Set ranges) = Unit {0}
IsNoUnion N.Null = Unit {0}
IsNoUnion N.Nothing = Unit {0}
IsNoUnion (N.Union a b) = ⊥
IsNoUnion (N.And a b) = Unit {0}
IsNoUnion (N.Minus a b) = Unit {0}
IsNoUnion (N.Cat a b) = Unit {0}
IsNoUnion (N.Star a n) = Unit {0}
IsNoUnion (N.Enter a l) = Unit {0}
IsNoUnion (N.Finish a l) = Unit {0}
IsNoUnion (N.All a l) = Unit {0}
IsNoUnion (N.Leave a l) = Unit {0}
IsNoUnion (N.Mark a class kind s x) = Unit {0}
IsNoUnion (N.When a c) = Unit {0}

-- the operands of ((t | u) | v) .. in order; an expression that is no union is its own operand
abbrev pub operands_of : Node → List Node
operands_of (N.Union a b) = operands_of a ++ b ∷ []
operands_of (N.Set ranges) = N.Set ranges ∷ []
operands_of N.Null = N.Null ∷ []
operands_of N.Nothing = N.Nothing ∷ []
operands_of (N.And a b) = N.And a b ∷ []
operands_of (N.Minus a b) = N.Minus a b ∷ []
operands_of (N.Cat a b) = N.Cat a b ∷ []
operands_of (N.Star a n) = N.Star a n ∷ []
operands_of (N.Enter a l) = N.Enter a l ∷ []
operands_of (N.Finish a l) = N.Finish a l ∷ []
operands_of (N.All a l) = N.All a l ∷ []
operands_of (N.Leave a l) = N.Leave a l ∷ []
operands_of (N.Mark a class kind s x) = N.Mark a class kind s x ∷ []
operands_of (N.When a c) = N.When a c ∷ []

-- each of the expressions is built
abbrev pub AreBuilt : Alphabet → List Node → List Built → Type 0
AreBuilt alphabet [] [] = Unit {0}
AreBuilt alphabet [] (b ∷ bs) = ⊥
AreBuilt alphabet (t ∷ ts) [] = ⊥
AreBuilt alphabet (t ∷ ts) (b ∷ bs) = IsBuilt alphabet t b × AreBuilt alphabet ts bs

-- the operands of the expression are built
abbrev pub AreOperandsOf : Alphabet → Node → List Built → Type 0
AreOperandsOf alphabet t bs = AreBuilt alphabet (operands_of t) bs

-- the operands of the expression are built, or its first refused node is told
abbrev pub IsGathered : Alphabet → Node → Result (Vec Built Global) Refused → Type 0
IsGathered alphabet t r = MatchResult r (λ (v : Vec Built Global). AreOperandsOf alphabet t v.items) (IsRefused alphabet t)

-- so many configurations of the expression have no more than 4,194,304 cells together
abbrev pub Fits : Alphabet → ℕ → Node → Type 0
Fits alphabet n t = (c : Cells) × AreCells alphabet (sets_in t) (conditions_in t) c × (n ≤ most_of c)

-- so many configurations fit each union that joins its operands
abbrev pub AllFit : Alphabet → ℕ → Node → Type 0
AllFit alphabet n (N.Union a b) = AllFit alphabet n a × Fits alphabet n (N.Union a b)
AllFit alphabet n (N.Set ranges) = Unit {0}
AllFit alphabet n N.Null = Unit {0}
AllFit alphabet n N.Nothing = Unit {0}
AllFit alphabet n (N.And a b) = Unit {0}
AllFit alphabet n (N.Minus a b) = Unit {0}
AllFit alphabet n (N.Cat a b) = Unit {0}
AllFit alphabet n (N.Star a m) = Unit {0}
AllFit alphabet n (N.Enter a l) = Unit {0}
AllFit alphabet n (N.Finish a l) = Unit {0}
AllFit alphabet n (N.All a l) = Unit {0}
AllFit alphabet n (N.Leave a l) = Unit {0}
AllFit alphabet n (N.Mark a class kind s x) = Unit {0}
AllFit alphabet n (N.When a c) = Unit {0}

-- the cells and the number of nodes of a union, of which so many configurations fit each union in it
pub record AreSums (alphabet : Alphabet) (n : ℕ) (t : Node) (s : Sums) : Type 0 where
  pub cells : AreCells alphabet (sets_in t) (conditions_in t) s.cells
  pub count : s.nodes ≡ size_of t
  pub fit : AllFit alphabet n t

pub record AreSmallSums (s : Sums) : Type 0 where
  pub nodes : s.nodes ≤ most_nodes
  pub ranges : range_count s.cells.sets.items ≤ 25600000

-- the sums of an expression, unless they do not fit one of them
abbrev pub AreSumsOf : Alphabet → ℕ → Node → Option Sums → Type 0
AreSumsOf alphabet n t r = IfSome r (AreSums alphabet n t)

-- the machine stands for the union of these operands, joined one after another, where none has a priority
abbrev pub IsUnionOf : List Built → Graph → Type 0
IsUnionOf bs m = (alphabet : Alphabet) (t : Node) (us : List Node) → HaveNoPriors (t ∷ us) → AreBuilt alphabet (t ∷ us) bs → StandsFor (union_of t us) m
