-- A machine's states that have no edge are those from which no letter steps.
use Rattle.std.proofs.Common.{◌≡◌, ℕ, zero, suc, ◌<◌, Bool, true, false, cond, List, [], ◌∷◌, Option, Some, None, option_map, ◌↔◌, IsTrue, length, slice_get, refl, sym, ◌∙◌, ap, subst, inl, inr, arith, true≢false}
use native.Mathlib.Decide.{dec_lt}
use Rattle.rl_types.specs.declared.numbers.Letter.{Letter}
use Rattle.rl_sets.specs.Sets.{In}
use Rattle.rl_automata.specs.declared.moves.Move.{Move}
use Rattle.rl_automata.specs.Auto.{on_part, is_none_left}
use Rattle.rl_automata.specs.Follows.{Reach}
use Rattle.rl_automata.specs.Scans.{Pattern, Confs, PatternMarks, ArePatternsHonest, scan_auto, TellsClosed}
use Rattle.rl_automata.proofs.Congruence.{reach_all, some_in, none_in}
use Rattle.rl_automata.proofs.MarksLaws.{scan_order}
use Rattle.rl_automata.proofs.Tests.{on_states, closed_exists}
use Rattle.rl_fsm.specs.declared.edge.Edge.{Edge}
use Rattle.rl_fsm.specs.declared.state.State.{State}
use Rattle.rl_fsm.specs.Reads.{takes, own_letter}
use Rattle.rl_fsm.specs.Graphs.{Graph, fsm_auto, state_at, edges_at, edge_for, reads_of, move_of, has_no_edge}
use Rattle.rl_fsm.specs.Sound.{IsEdge, AreEdges, IsSound}
use Rattle.rl_fsm.proofs.PieceLaws.{All-In}
use Rattle.rl_fsm.proofs.Walks.{finds_each, reaches_each}
use Rattle.rl_fsm.specs.Scanned.{Scanned}
use Rattle.rl_scan.specs.Scanners.{ScannerStandsFor}
use Rattle.rl_scan.proofs.WalkLaws.{step_edges}

pub closed_told : (m : Graph) → IsSound m → TellsClosed (fsm_auto m) (has_no_edge m)
closed_told m h i r = by (edges_at m i) refl
  where
    by : (es : List Edge) → edges_at m i ≡ es → IsTrue (is_none_left (edges_at m i)) ↔ ((l : Letter) → (fsm_auto m).step i l ≡ None)
    by [] q = (
      (λ t l. step_edges m i l ∙ ap (λ es. option_map move_of (edge_for l es)) q),
      (λ n. ap is_none_left q),
    )
    by (e ∷ es) q = (
      (λ t. absurd (true≢false (sym t ∙ ap is_none_left q))),
      (λ n.
          let l = own_letter (reads_of e) in
          let there : In e (edges_at m i) = subst (In e) (sym q) (inl refl) in
          none_in (move_of e) (sym (n l) ∙ step_edges m i l ∙ ap (option_map move_of) (finds_each m h i e there))),
    )

-- ---- the numbers that are reached

upto : ℕ → List ℕ
upto zero = []
upto (suc n) = n ∷ upto n

in_upto : (n i : ℕ) → i < n → In i (upto n)
unfolding upto
in_upto zero i h = absurd (omega arith)
in_upto (suc n) i h = elim (dec_lt i n) [ yes l ↦ inr (in_upto n i l) | no k ↦ inl (omega arith) ]

upto_below : (n i : ℕ) → In i (upto n) → i < n
unfolding upto
upto_below zero i h = absurd h
upto_below (suc n) i (inl e) = omega arith
upto_below (suc n) i (inr h) = let l : i < n = upto_below n i h in omega arith

find_in : (l : Letter) (es : List Edge) (e : Edge) → edge_for l es ≡ Some e → In e es
find_in l [] e h = none_in e h
find_in l (f ∷ es) e h =
    (elim (takes l (reads_of f)) as (λ b. cond b (Some f) (edge_for l es) ≡ Some e → In e (f ∷ es)) [
      | true ↦ λ q. inl (some_in f e q)
      | false ↦ λ q. inr (find_in l es e q)
    ]) h

get_In : {X : Type 0} (xs : List X) (i : ℕ) (x : X) → slice_get xs i ≡ Some x → In x xs
get_In [] i x e = none_in x e
get_In (y ∷ xs) zero x e = inl (some_in y x e)
get_In (y ∷ xs) (suc i) x e = inr (get_In xs i x e)

reached_below : (m : Graph) → IsSound m → (i : ℕ) → Reach (fsm_auto m) i → i < length m.states
reached_below m h = reach_all (λ i. i < length m.states) h.start (λ i r b l v e. by i l v (state_at m i) refl e)
  where
    by : (i : ℕ) (l : Letter) (v : Move ℕ) (o : Option State) → state_at m i ≡ o → on_part None (λ (s : State). option_map move_of (edge_for l s.edges)) o ≡ Some v → v.to < length m.states
    by i l v None q e = none_in v e
    by i l v (Some s) q e =
        let a = All-In (λ (s : State). AreEdges (length m.states) s.edges) m.states s h.edges (get_In m.states i s q) in
        (elim (edge_for l s.edges) as (λ o. edge_for l s.edges ≡ o → option_map move_of o ≡ Some v → v.to < length m.states) [
          | None ↦ λ r f. none_in v f
          | Some g ↦ λ r f. subst (λ w. w.to < length m.states) (some_in (move_of g) v f) (All-In (IsEdge (length m.states)) s.edges g a.each (find_in l s.edges g r)).target
        ]) refl e

-- ---- scanners

pub scanner_tests : (ps : List Pattern) (k : PatternMarks ps) → ArePatternsHonest ps k → (s : Scanned) → ScannerStandsFor ps s → (closed : Confs ps → Bool) × TellsClosed (scan_auto ps k) closed
scanner_tests ps k h s stands =
    let B = (stands k h).machine in
    let m = s.machine in
    let js = upto (length m.states) in
    let all : (i : ℕ) → Reach (fsm_auto m) i ↔ In i js = λ i. (
      (λ r. in_upto (length m.states) i (reached_below m B.sound i r)),
      (λ j. reaches_each m B.sound B.numbered i (upto_below (length m.states) i j)),
    ) in (
      on_states (scan_order ps k) B.name B.follows js all (has_no_edge m),
      closed_exists (scan_order ps k) B.name B.follows js all (has_no_edge m) (closed_told m B.sound),
    )
