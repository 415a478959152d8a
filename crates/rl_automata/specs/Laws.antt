-- Laws of automata and of what operators make of them.
use Rattle.std.specs.Prelude.{◌≡◌, ◌≢◌, ℕ, ◌<◌, ℤ, Bool, List, map, Option, Some, IsTrue}
use Rattle.rl_types.specs.declared.numbers.Letter.{Letter}
use Rattle.rl_automata.specs.declared.moves.Move.{Move}
use Rattle.rl_types.specs.declared.alphabet.Alphabet.{Alphabet}
use Rattle.rl_types.specs.Alphabet.{has_key}
use Rattle.rl_types.specs.KeyRange.{Range}
use Rattle.rl_sets.specs.Sets.{In}
use Rattle.rl_sets.specs.Order.{IsOrder}
use Rattle.rl_automata.specs.Refused.{AreDifferent, held_in}
use Rattle.rl_automata.specs.declared.tree.Label.{Label}
use Rattle.rl_automata.specs.declared.tree.Class.{Class}
use Rattle.rl_automata.specs.declared.tree.Kind.{Kind}
use Rattle.rl_automata.specs.Auto.{Auto, holds, quiet, pruned, union_auto, and_auto, minus_auto, cat_auto, star_auto, enter_auto, finish_auto, every_auto, leave_auto, mark_auto, when_auto}
use Rattle.rl_automata.specs.Follows.{Follows}
use Rattle.rl_automata.specs.Nodes as N
use Rattle.rl_automata.specs.Nodes.{Node, Conf, carry_of, TellsLive}
use Rattle.rl_automata.specs.Marks.{Marks, auto}

-- no step leads to the start
abbrev pub NeverReturns : {S : Type 0} → Auto S → Type 0
NeverReturns {S} A = (c : S) (l : Letter) (m : Move S) → A.step c l ≡ Some m → m.to ≢ A.start

-- the two sets of truths have the same of the asked conditions
abbrev pub AgreeOn : ℕ → ℕ → ℕ → Type 0
AgreeOn asked t u = (c : ℕ) → IsTrue (holds c asked) → holds c t ≡ holds c u

-- truths that agree on these conditions give the same step
abbrev pub NeedsOnly : {S : Type 0} → Auto S → (S → ℤ → ℕ) → Type 0
NeedsOnly {S} A asks = (c : S) (key : ℤ) (t u : ℕ) → t < 256 → u < 256 → AgreeOn (asks c key) t u → A.step c (record { key = key; truths = t }) ≡ A.step c (record { key = key; truths = u })

-- a step depends only on the key and on those truths that are asked
abbrev pub StepsByAsked : {S : Type 0} → Auto S → Type 0
StepsByAsked A = NeedsOnly A A.asked

-- ---- operators and names

-- A is the expression's automaton under other names
abbrev pub IsNamed : {S : Type 0} → Auto S → (t : Node) → Marks t → Type 0
IsNamed {S} A t k = (name : S → Conf t) × Follows A (auto t k) name

-- What an operator makes of automata over numbers that are the operands' is the node's. For an intersection and a
-- difference that asks for a test on the numbers that tells the truth, beside the node's own.
abbrev pub UnionKeepsNames : Type 0
UnionKeepsNames = (a b : Node) (k : Marks a) (h : Marks b) (A B : Auto ℕ) → IsNamed A a k → IsNamed B b h → IsNamed (quiet (union_auto A B)) (N.Union a b) (k, h)

abbrev pub AndKeepsNames : Type 0
AndKeepsNames = (a b : Node) (k : Marks a) (h : Marks b) (live : Option (Conf a) × Option (Conf b) → Bool) (A B : Auto ℕ) (mark : Option ℕ × Option ℕ → Bool) → IsNamed A a k → IsNamed B b h
    → TellsLive (and_auto A B) mark → TellsLive (and_auto (auto a k) (auto b h)) live → IsNamed (pruned mark (and_auto A B)) (N.And a b) (k, h, live)

abbrev pub MinusKeepsNames : Type 0
MinusKeepsNames = (a b : Node) (k : Marks a) (h : Marks b) (live : Option (Conf a) × Option (Conf b) → Bool) (A B : Auto ℕ) (mark : Option ℕ × Option ℕ → Bool) → IsNamed A a k → IsNamed B b h
    → TellsLive (minus_auto A B) mark → TellsLive (minus_auto (auto a k) (auto b h)) live → IsNamed (pruned mark (minus_auto A B)) (N.Minus a b) (k, h, live)

abbrev pub CatKeepsNames : Type 0
CatKeepsNames = (a b : Node) (k : Marks a) (h : Marks b) (A B : Auto ℕ) → IsOrder B.order → IsNamed A a k → IsNamed B b h → IsNamed (quiet (cat_auto A B)) (N.Cat a b) (k, h)

abbrev pub StarKeepsNames : Type 0
StarKeepsNames = (a : Node) (k : Marks a) (base : ℕ) (A : Auto ℕ) → IsOrder A.order → IsNamed A a k → IsNamed (quiet (star_auto A base)) (N.Star a base) k

abbrev pub EnterKeepsNames : Type 0
EnterKeepsNames = (a : Node) (k : Marks a) (label : Label) (A : Auto ℕ) → IsOrder A.order → IsNamed A a k → IsNamed (enter_auto A (carry_of label)) (N.Enter a label) k

abbrev pub FinishKeepsNames : Type 0
FinishKeepsNames = (a : Node) (k : Marks a) (label : Label) (A : Auto ℕ) → IsNamed A a k → IsNamed (finish_auto A (carry_of label)) (N.Finish a label) k

abbrev pub AllKeepsNames : Type 0
AllKeepsNames = (a : Node) (k : Marks a) (label : Label) (A : Auto ℕ) → IsNamed A a k → IsNamed (every_auto A (carry_of label)) (N.All a label) k

abbrev pub LeaveKeepsNames : Type 0
LeaveKeepsNames = (a : Node) (k : Marks a) (label : Label) (A : Auto ℕ) → IsNamed A a k → IsNamed (leave_auto A (carry_of label)) (N.Leave a label) k

abbrev pub MarkKeepsNames : Type 0
MarkKeepsNames = (a : Node) (k : Marks a) (class : Class) (kind : Kind) (stamp action : ℕ) (A : Auto ℕ) → IsOrder A.order → IsNamed A a k
    → IsNamed (mark_auto A class kind (record { major = stamp; minor = 0; action = record { 0 = action } })) (N.Mark a class kind stamp action) k

abbrev pub WhenKeepsNames : Type 0
WhenKeepsNames = (a : Node) (k : Marks a) (condition : ℕ) (A : Auto ℕ) → IsNamed A a k → IsNamed (when_auto condition A) (N.When a condition) k

-- ---- key classes

-- these keys are one of each class: no two lie in the same sets, and each key of the alphabet lies in those of one of them
abbrev pub AreOneOfEach : Alphabet → List (List Range) → List ℤ → Type 0
AreOneOfEach alphabet sets keys =
    ((k : ℤ) → In k keys → IsTrue (has_key alphabet k)) × AreDifferent (map (held_in sets) keys) ×
    ((k : ℤ) → IsTrue (has_key alphabet k) → In (held_in sets k) (map (held_in sets) keys))
