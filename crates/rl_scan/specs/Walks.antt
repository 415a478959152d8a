-- The configurations that the states of a machine are, found along its edges.
use Rattle.std.specs.Prelude.{◌≡◌, ℕ, zero, suc, cond, List, [], ◌∷◌, ◌++◌, Option, Some, length, nat_eq, slice_get}
use Rattle.std.specs.Option.{option_map}
use Rattle.rl_automata.specs.declared.moves.Move.{Move}
use Rattle.rl_automata.specs.Auto.{Auto, on_part, listed}
use Rattle.rl_fsm.specs.declared.edge.Edge.{Edge}
use Rattle.rl_fsm.specs.Reads.{own_letter}
use Rattle.rl_fsm.specs.Graphs.{Graph, reads_of, edges_at}

module _ {S : Type 0} where
  -- where the automaton steps from c on the first letter of the edge
  abbrev pub to_of : Auto S → S → Edge → Option S
  to_of A c e = option_map (λ (m : Move S). m.to) (A.step c (own_letter (reads_of e)))

  -- the found, and where the edge leads if that is the next state
  abbrev pub with_target : Auto S → S → List S → Edge → List S
  with_target A c found e = cond (nat_eq e.target (length found)) (found ++ listed (to_of A c e)) found

  abbrev pub with_targets : Auto S → S → List S → List Edge → List S
  with_targets A c found [] = found
  with_targets A c found (e ∷ es) = with_targets A c (with_target A c found e) es

  -- the found, and where the edges of the i-th lead
  abbrev pub with_state : Auto S → ℕ → List S → List Edge → List S
  with_state A i found es = on_part found (λ c. with_targets A c found es) (slice_get found i)

  -- what is found when so many states had their turn
  unfoldable pub walked_up : Auto S → Graph → ℕ → List S
  walked_up A m zero = A.start ∷ []
  walked_up A m (suc i) = with_state A i (walked_up A m i) (edges_at m i)

  abbrev pub walked : Auto S → Graph → List S
  walked A m = walked_up A m (length m.states)

  -- the listed are the names of the numbers, from 0
  abbrev pub AreNamed : (ℕ → S) → List S → Type 0
  AreNamed name found = (i : ℕ) (c : S) → slice_get found i ≡ Some c → name i ≡ c
