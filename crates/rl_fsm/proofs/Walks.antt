-- A walk that numbers all states reaches them.
use Rattle.std.proofs.Common.{◌≡◌, ℕ, zero, suc, ◌+◌, ◌<◌, true, false, cond, List, [], ◌∷◌, length, drop, Option, Some, None, nat_eq, nat_lt, slice_get, refl, ap, ◌∙◌, subst, inl, inr, arith, add-one, option_map}
use native.Mathlib.Decide.{dec_lt}
use borrow.Author.Tests.{ltb-true, eqb-true}
use Rattle.rl_sets.specs.Sets.{In}
use Rattle.rl_sets.proofs.SetLaws.{In-map_from}
use Rattle.rl_automata.specs.Auto.{on_part}
use Rattle.rl_automata.specs.Follows.{Reach, begun, went}
use Rattle.rl_automata.proofs.Congruence.{some_in, none_in}
use Rattle.rl_fsm.specs.declared.edge.Edge.{Edge}
use Rattle.rl_fsm.specs.declared.state.State.{State}
use Rattle.rl_fsm.specs.Reads.{own_letter}
use Rattle.rl_fsm.specs.Graphs.{Graph, fsm_auto, state_at, edge_for, reads_of, move_of}
use Rattle.rl_fsm.specs.Sound.{IsEdge, AreEdges, IsSound}
use Rattle.rl_fsm.specs.Builds.{IsNumbered, known_after, known_from, targets_in, and_then}
use Rattle.rl_fsm.specs.Laws.{FindsEachEdge, ReachesEachState}
use Rattle.rl_fsm.proofs.PieceLaws.{All-In}
use Rattle.rl_fsm.proofs.Ascending.{edge_found}

slice_get-In : {X : Type 0} (xs : List X) (i : ℕ) (x : X) → slice_get xs i ≡ Some x → In x xs
slice_get-In [] i x e = none_in x e
slice_get-In (y ∷ xs) zero x e = inl (some_in y x e)
slice_get-In (y ∷ xs) (suc i) x e = inr (slice_get-In xs i x e)

slice_get-drop : {X : Type 0} (xs : List X) (i : ℕ) (x : X) (ys : List X) → drop i xs ≡ x ∷ ys → (slice_get xs i ≡ Some x) × (drop (suc i) xs ≡ ys)
slice_get-drop [] zero x ys e = cc
slice_get-drop [] (suc i) x ys e = cc
slice_get-drop (y ∷ xs) zero x ys e = (cc, cc)
slice_get-drop (y ∷ xs) (suc i) x ys e = slice_get-drop xs i x ys e

module _ (m : Graph) (h : IsSound m) where
  state_edges : (i : ℕ) (s : State) → state_at m i ≡ Some s → AreEdges (length m.states) s.edges
  state_edges i s e = All-In (λ (s : State). AreEdges (length m.states) s.edges) m.states s h.edges (slice_get-In m.states i s e)

  pub finds_each : FindsEachEdge m
  finds_each i e = by (state_at m i) refl
    where
      by : (o : Option State) → state_at m i ≡ o → In e (on_part [] (λ (s : State). s.edges) o) → edge_for (own_letter (reads_of e)) (on_part [] (λ (s : State). s.edges) o) ≡ Some e
      by None q j = absurd j
      by (Some s) q j = let a = state_edges i s q in edge_found (length m.states) s.edges (λ f l. All-In (IsEdge (length m.states)) s.edges f a.each l) a.ascending e j

  target_reached : (i : ℕ) (s : State) (e : Edge) → state_at m i ≡ Some s → In e s.edges → Reach (fsm_auto m) i → Reach (fsm_auto m) e.target
  target_reached i s e q j r =
      let a = state_edges i s q in
      let f : edge_for (own_letter (reads_of e)) s.edges ≡ Some e = edge_found (length m.states) s.edges (λ f l. All-In (IsEdge (length m.states)) s.edges f a.each l) a.ascending e j in
      went r (own_letter (reads_of e)) (move_of e)
      (ap (λ o. on_part None (λ (s : State). option_map move_of (edge_for (own_letter (reads_of e)) s.edges)) o) q ∙ ap (option_map move_of) f)

  abbrev ReachedBelow : ℕ → Type 0
  ReachedBelow k = (j : ℕ) → j < k → Reach (fsm_auto m) j

  targets_reached : (k : ℕ) (ts : List ℕ) (n : ℕ) → known_after k ts ≡ Some n → ((t : ℕ) → In t ts → Reach (fsm_auto m) t) → ReachedBelow k → ReachedBelow n
  targets_reached k [] n e f b = subst ReachedBelow (some_in k n e) b
  targets_reached k (t ∷ ts) n e f b =
      (elim (nat_lt t k) as (λ w. cond w (known_after k ts) (cond (nat_eq t k) (known_after (k + 1) ts) None) ≡ Some n → ReachedBelow n) [
        | true ↦ λ q. targets_reached k ts n q (λ u i. f u (inr i)) b
        | false ↦ (elim (nat_eq t k) as (λ w. nat_eq t k ≡ w → cond w (known_after (k + 1) ts) None ≡ Some n → ReachedBelow n) [
          | true ↦ λ v q. targets_reached (k + 1) ts n q (λ u i. f u (inr i)) (λ j l. elim (dec_lt j k) [
            | yes p ↦ b j p
            | no p ↦ subst (Reach (fsm_auto m)) (let g : t ≡ k = eqb-true t k v in let r : t ≡ j = omega arith in r) (f t (inl refl))
          ])
          | false ↦ λ v q. none_in n q
        ]) refl
      ]) e

  walk_reaches : (i k : ℕ) (ss : List State) (n : ℕ) → known_from i k ss ≡ Some n → drop i m.states ≡ ss → ReachedBelow k → ReachedBelow n
  walk_reaches i k [] n e d b = subst ReachedBelow (some_in k n e) b
  walk_reaches i k (s ∷ ss) n e d b =
      (elim (nat_lt i k) as (λ w. nat_lt i k ≡ w → cond w (and_then (known_after k (targets_in s)) (λ q. known_from (i + 1) q ss)) None ≡ Some n → ReachedBelow n) [
        | true ↦ λ t. (elim (known_after k (targets_in s)) as (λ o. known_after k (targets_in s) ≡ o → and_then o (λ q. known_from (i + 1) q ss) ≡ Some n → ReachedBelow n) [
          | None ↦ λ v q. none_in n q
          | Some l ↦ λ v q.
              let at = slice_get-drop m.states i s ss d in
              let here : Reach (fsm_auto m) i = b i (ltb-true i k t) in
              walk_reaches (i + 1) l ss n q (ap (λ w. drop w m.states) (add-one i) ∙ at.1)
              (targets_reached k (targets_in s) l v (λ t j. let p = In-map_from (λ (e : Edge). e.target) t s.edges j in subst (Reach (fsm_auto m)) p.2 (target_reached i s p.0 at.0 p.1 here)) b)
        ]) refl
        | false ↦ λ t q. none_in n q
      ]) refl e

  pub reaches_each : IsNumbered m → ReachesEachState m
  reaches_each w = walk_reaches 0 1 m.states (length m.states) w.known refl (λ j l. subst (Reach (fsm_auto m)) (w.start ∙ low j l) begun)
    where
      low : (j : ℕ) → j < 1 → 0 ≡ j
      low j l = omega arith
