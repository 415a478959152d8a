-- Expression trees, their configurations, and words that end.
use Rattle.std.specs.Prelude.{◌≡◌, ℕ, Bool, List, [], ◌∷◌, Option, Some, ◌↔◌, IsTrue}
use Rattle.rl_types.specs.declared.numbers.Letter.{Letter}
use Rattle.rl_types.specs.KeyRange.{Range}
use Rattle.rl_automata.specs.declared.tree.Label.{Label}
use Rattle.rl_automata.specs.declared.tree.Class.{Class}
use Rattle.rl_automata.specs.declared.tree.Kind.{Kind}
use Rattle.rl_automata.specs.declared.tree.Tree.{Tree}
use Rattle.rl_automata.specs.declared.tree.Tree as rust
use Rattle.rl_labels.specs.declared.carry.Carry.{Carry}
use Rattle.rl_automata.specs.declared.moves.Move.{Move}
use Rattle.rl_automata.specs.Follows.{Reach}
use Rattle.rl_automata.specs.declared.tree.Label.TheVariants.{Action, Prior}
use Rattle.rl_automata.specs.Auto.{Auto}

-- what an embedding puts onto a step: an action, or a priority under a name, with its stamp
abbrev pub carry_of : Label → Carry
carry_of (Action s x) = record { actions = record { major = s; minor = 0; action = x } ∷ []; table = [] }
carry_of (Prior s n v) = record { actions = []; table = record { name = n; stamp = s; value = v } ∷ [] }

-- an expression as plain data: what a `Tree` is without its boxes and lists, with plain numbers of actions and conditions
pub data Node : Type 0 where
  Set : List Range → Node
  Null Nothing : Node
  Union And Minus Cat : Node → Node → Node
  Star : Node → ℕ → Node
  Enter Finish All Leave : Node → Label → Node
  Mark : Node → Class → Kind → ℕ → ℕ → Node
  When : Node → ℕ → Node

-- the expression that a tree holds
abbrev pub node_of : Tree → Node
node_of (rust.Set v) = Set v
node_of rust.Null = Null
node_of rust.Nothing = Nothing
node_of (rust.Union' p a q b) = Union (node_of a) (node_of b)
node_of (rust.And' p a q b) = And (node_of a) (node_of b)
node_of (rust.Minus' p a q b) = Minus (node_of a) (node_of b)
node_of (rust.Cat' p a q b) = Cat (node_of a) (node_of b)
node_of (rust.Star' p a n) = Star (node_of a) n
node_of (rust.Enter' p a l) = Enter (node_of a) l
node_of (rust.Finish' p a l) = Finish (node_of a) l
node_of (rust.All' p a l) = All (node_of a) l
node_of (rust.Leave' p a l) = Leave (node_of a) l
node_of (rust.Mark' p a class kind s x) = Mark (node_of a) class kind s x.0
node_of (rust.When' p a c) = When (node_of a) c.0

-- the configurations of an expression: how far each part of it is
abbrev pub Conf : Node → Type 0
Conf (Set ranges) = Bool
Conf Null = Unit {0}
Conf Nothing = Unit {0}
Conf (Union a b) = Option (Conf a) × Option (Conf b)
Conf (And a b) = Option (Conf a) × Option (Conf b)
Conf (Minus a b) = Option (Conf a) × Option (Conf b)
Conf (Cat a b) = Option (Conf a) × List (Conf b)
Conf (Star a n) = List (Conf a)
Conf (Enter a l) = Conf a
Conf (Finish a l) = Conf a
Conf (All a l) = Conf a
Conf (Leave a l) = Conf a
Conf (Mark a class kind s x) = Conf a
Conf (When a c) = Conf a

-- the word leads from c to a final configuration
abbrev pub Ends : {S : Type 0} → Auto S → List Letter → S → Type 0
Ends A [] c = IsTrue (A.final c)
Ends A (l ∷ w) c = (m : Move _) × (A.step c l ≡ Some m) × Ends A w m.to

-- `live` tells of each reachable configuration whether some word leads from it to a final one
abbrev pub TellsLive : {S : Type 0} → Auto S → (S → Bool) → Type 0
TellsLive {S} A live = (c : S) → Reach A c → IsTrue (live c) ↔ ((w : List Letter) × Ends A w c)
