-- When a machine is an automaton's reachable part, and when it stands for an expression.
use Rattle.std.specs.Prelude.{◌≡◌, ℕ, ◌+◌, cond, List, [], ◌∷◌, map, nat_eq, nat_lt, Option, Some, None, length}
use Rattle.rl_automata.specs.Auto.{Auto}
use Rattle.rl_automata.specs.Follows.{Follows}
use Rattle.rl_automata.specs.Nodes.{Node}
use Rattle.rl_automata.specs.Marks.{Marks, auto, AreHonest}
use Rattle.rl_fsm.specs.declared.edge.Edge.{Edge}
use Rattle.rl_fsm.specs.declared.state.State.{State}
use Rattle.rl_fsm.specs.Graphs.{Graph, fsm_auto}
use Rattle.rl_fsm.specs.Sound.{IsSound}

-- ---- numbers in the order of a breadth-first walk

-- n states are known and the targets come in turn, each of them known or the next; how many are known then
abbrev pub known_after : ℕ → List ℕ → Option ℕ
known_after n [] = Some n
known_after n (t ∷ ts) = cond (nat_lt t n) (known_after n ts) (cond (nat_eq t n) (known_after (n + 1) ts) None)

abbrev pub targets_in : State → List ℕ
targets_in s = map (λ (e : Edge). e.target) s.edges

abbrev pub and_then : Option ℕ → (ℕ → Option ℕ) → Option ℕ
and_then None f = None
and_then (Some n) f = f n

-- the states are visited from the i-th on, each known before its turn
abbrev pub known_from : ℕ → ℕ → List State → Option ℕ
known_from i n [] = Some n
known_from i n (s ∷ ss) = cond (nat_lt i n) (and_then (known_after n (targets_in s)) (λ k. known_from (i + 1) k ss)) None

-- The states are numbered as a breadth-first walk from the start finds them, by ascending keys and truths, and it finds
-- all of them.
pub record IsNumbered (m : Graph) : Type 0 where
  pub start : m.start ≡ 0
  pub known : known_from 0 1 m.states ≡ Some (length m.states)

-- ---- machines and automata

-- The machine's states are, one for one under `name`, the configurations that the automaton reaches, numbered
-- breadth-first, and all that is told of them agrees.
pub record Builds {S : Type 0} (A : Auto S) (m : Graph) : Type 0 where
  pub sound : IsSound m
  pub numbered : IsNumbered m
  pub name : ℕ → S
  pub follows : Follows (fsm_auto m) A name

-- the machine is built of the expression's automaton, whichever honest tests are taken
abbrev pub StandsFor : Node → Graph → Type 0
StandsFor t m = (k : Marks t) → AreHonest t k → Builds (auto t k) m
