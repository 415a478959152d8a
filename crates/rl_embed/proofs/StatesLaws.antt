-- What a machine reaches is among its states.
use Rattle.std.proofs.Common.{◌≡◌, ℕ, zero, suc, ◌<◌, Bool, true, false, cond, List, [], ◌∷◌, length, Option, Some, None, option_map, slice_get, refl, ap, sym, ◌∙◌, subst, inl, inr, arith}
use Rattle.std.specs.List.{find}
use Rattle.std.proofs.lemmas.Option.{slice_get_cases}
use Rattle.rl_sets.specs.Sets.{In}
use Rattle.rl_types.specs.declared.numbers.Letter.{Letter}
use Rattle.rl_automata.specs.declared.moves.Move.{Move}
use Rattle.rl_automata.specs.Auto.{on_part}
use Rattle.rl_automata.specs.Follows.{Reach}
use Rattle.rl_automata.proofs.Congruence.{none_in, some_in, reach_all}
use Rattle.rl_fsm.specs.declared.edge.Edge.{Edge}
use Rattle.rl_fsm.specs.declared.state.State.{State}
use Rattle.rl_fsm.specs.Graphs.{Graph, fsm_auto, state_at, edge_for, move_of}
use Rattle.rl_fsm.specs.Sound.{IsEdge, AreEdges, IsSound}
use Rattle.rl_fsm.proofs.PieceLaws.{All-In}

pub In-find : {X : Type 0} (p : X → Bool) (xs : List X) (x : X) → find p xs ≡ Some x → In x xs
In-find p [] x e = none_in x e
In-find p (y ∷ xs) x e =
    (elim (p y) as (λ b. cond b (Some y) (find p xs) ≡ Some x → In x (y ∷ xs)) [
      | true ↦ λ q. inl (some_in y x q)
      | false ↦ λ q. inr (In-find p xs x q)
    ]) e

slice_get-In : {X : Type 0} (xs : List X) (i : ℕ) (x : X) → slice_get xs i ≡ Some x → In x xs
slice_get-In [] i x e = none_in x e
slice_get-In (y ∷ xs) zero x e = inl (some_in y x e)
slice_get-In (y ∷ xs) (suc i) x e = inr (slice_get-In xs i x e)

module _ (m : Graph) (h : IsSound m) where
  leads_within : (i : ℕ) (l : Letter) (n : Move ℕ) → (fsm_auto m).step i l ≡ Some n → n.to < length m.states
  leads_within i l n e = at (state_at m i) refl e
    where
      by : (s : State) → AreEdges (length m.states) s.edges → (o : Option Edge) → ((x : Edge) → o ≡ Some x → In x s.edges) → option_map move_of o ≡ Some n → n.to < length m.states
      by s a None j q = none_in n q
      by s a (Some x) j q = subst (λ w. w < length m.states) (ap (λ w. w.to) (some_in (move_of x) n q)) (let d = All-In (IsEdge (length m.states)) s.edges x a.each (j x refl) in d.target)

      at : (o : Option State) → state_at m i ≡ o → on_part None (λ (s : State). option_map move_of (edge_for l s.edges)) o ≡ Some n → n.to < length m.states
      at None p q = none_in n q
      at (Some s) p q = by s (All-In (λ (s : State). AreEdges (length m.states) s.edges) m.states s h.edges (slice_get-In m.states i s p)) (edge_for l s.edges) (λ x d. In-find _ s.edges x d) q

  pub reached_within : (i : ℕ) → Reach (fsm_auto m) i → i < length m.states
  reached_within = reach_all (λ i. i < length m.states) h.start (λ i r b l n e. leads_within i l n e)

  pub reached_there : (i : ℕ) → Reach (fsm_auto m) i → (s : State) × (state_at m i ≡ Some s)
  reached_there i r = let w = reached_within i r in elim (slice_get_cases m.states i).1 [ inl p ↦ (p.0, p.2) | inr q ↦ absurd (let l = q.0 in omega arith) ]
