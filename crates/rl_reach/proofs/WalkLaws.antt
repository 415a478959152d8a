-- The steps and the end of a walk.
use Rattle.std.proofs.Common.{◌≡◌, ℕ, zero, suc, ◌+◌, ◌<◌, ◌≤◌, Bool, true, false, cond, ◌&&◌, List, [], ◌∷◌, ◌++◌, take, length, Option, Some, None, slice_get, nat_le, refl, ap, sym, ◌∙◌, subst, inl, inr, arith, append_assoc, append-nil, option_map}
use Rattle.std.specs.List.{flat_map, range_with_len}
use Rattle.std.proofs.lemmas.List.{take_more, take_all, take-append-le}
use Rattle.std.proofs.lemmas.Option.{get_or_from_slice_get}
use borrow.Author.Tests.{le-leb, leb-true}
use Rattle.rl_types.specs.declared.numbers.Letter.{Letter}
use Rattle.rl_sets.specs.Sets.{In}
use Rattle.rl_sets.proofs.SetLaws.{In-append_left, In-append_right, In-map, In-map_from, In-flat_map}
use Rattle.rl_automata.specs.declared.moves.Move.{Move}
use Rattle.rl_automata.specs.Auto.{on_part}
use Rattle.rl_automata.specs.Follows.{Reach, begun, went}
use Rattle.rl_automata.specs.Refused.{AreDifferent}
use Rattle.rl_automata.proofs.Congruence.{reach_all, some_in, none_in}
use Rattle.rl_explore.proofs.NumberLaws.{get_below, get_In}
use Rattle.rl_fsm.specs.declared.root.EntryFsm.{EntryFsm}
use Rattle.rl_fsm.specs.declared.edge.Edge.{Edge}
use Rattle.rl_fsm.specs.declared.state.State.{State}
use Rattle.rl_fsm.specs.Reads.{takes, own_letter}
use Rattle.rl_fsm.specs.Graphs.{Graph, fsm_auto, state_at, edges_at, edge_for, reads_of, move_of}
use Rattle.rl_fsm.specs.Roots.{graph_at, auto_at}
use Rattle.rl_fsm.specs.Sound.{IsEdge, AreEdges, IsSound}
use Rattle.rl_fsm.proofs.PieceLaws.{All-In}
use Rattle.rl_fsm.proofs.Walks.{finds_each}
use Rattle.rl_model.specs.Parts.{is_entry}
use Rattle.rl_root.specs.Roots.{IsBuilt}
use Rattle.rl_reach.specs.declared.place.Place.{Place}
use Rattle.rl_reach.specs.Places.{with_places}
use Rattle.rl_reach.specs.Walks.{AreSound, IsWalk, start_of, starts_of, target_of, targets_of, state_of}
use Rattle.rl_reach.proofs.PlaceLaws.{places_differ, places_extend, places_in, places_from, places-append}

-- ---- one machine

edge_in : (l : Letter) (es : List Edge) (e : Edge) → edge_for l es ≡ Some e → In e es
edge_in l [] e h = none_in e h
edge_in l (f ∷ es) e h =
    (elim (takes l (reads_of f)) as (λ b. cond b (Some f) (edge_for l es) ≡ Some e → In e (f ∷ es)) [
      | true ↦ λ q. inl (some_in f e q)
      | false ↦ λ q. inr (edge_in l es e q)
    ]) h

module _ (m : Graph) where
  -- a step is an edge
  pub step_edge : (i : ℕ) (l : Letter) (v : Move ℕ) → (fsm_auto m).step i l ≡ Some v → (e : Edge) × In e (edges_at m i) × (e.target ≡ v.to)
  step_edge i l v h = by (state_at m i) refl h
    where
      found : (es : List Edge) (o : Option Edge) → edge_for l es ≡ o → option_map move_of o ≡ Some v → (e : Edge) × In e es × (e.target ≡ v.to)
      found es None q f = none_in v f
      found es (Some e) q f = (e, edge_in l es e q, ap (λ (w : Move ℕ). w.to) (some_in (move_of e) v f))

      by : (o : Option State) → state_at m i ≡ o → on_part None (λ (s : State). option_map move_of (edge_for l s.edges)) o ≡ Some v → (e : Edge) × In e (on_part [] (λ (s : State). s.edges) o) × (e.target ≡ v.to)
      by None q f = none_in v f
      by (Some s) q f = found s.edges (edge_for l s.edges) refl f

  -- an edge is a step
  pub edge_step : IsSound m → (i : ℕ) (e : Edge) → In e (edges_at m i) → (fsm_auto m).step i (own_letter (reads_of e)) ≡ Some (move_of e)
  edge_step h i e j = by (state_at m i) refl j (finds_each m h i e j)
    where
      by : (o : Option State) → state_at m i ≡ o → In e (on_part [] (λ (s : State). s.edges) o) → edge_for (own_letter (reads_of e)) (on_part [] (λ (s : State). s.edges) o) ≡ Some e
          → on_part None (λ (s : State). option_map move_of (edge_for (own_letter (reads_of e)) s.edges)) o ≡ Some (move_of e)
      by None q j f = absurd j
      by (Some s) q j f = ap (option_map move_of) f

  -- the edges of a state are those of a sound machine
  pub edges_sound : IsSound m → (i : ℕ) (s : State) → state_at m i ≡ Some s → AreEdges (length m.states) s.edges
  edges_sound h i s e = All-In (λ (s : State). AreEdges (length m.states) s.edges) m.states s h.edges (get_In m.states i s e)

  pub edge_sound : IsSound m → (i : ℕ) (e : Edge) → In e (edges_at m i) → IsEdge (length m.states) e
  edge_sound h i e j = by (state_at m i) refl j
    where
      by : (o : Option State) → state_at m i ≡ o → In e (on_part [] (λ (s : State). s.edges) o) → IsEdge (length m.states) e
      by None q j = absurd j
      by (Some s) q j = All-In (IsEdge (length m.states)) s.edges e (edges_sound h i s q).each j

-- what a word leads to is a state
pub reach_there : (entries : List EntryFsm) (e : ℕ) → IsSound (graph_at entries e) → (i : ℕ) → Reach (auto_at entries e) i → i < length (graph_at entries e).states
reach_there entries e h = reach_all (λ i. i < length (graph_at entries e).states) h.start (λ i r b l v q.
    let p = step_edge (graph_at entries e) i l v q in
    subst (λ w. w < length (graph_at entries e).states) p.2 (edge_sound (graph_at entries e) h i p.0 p.1).target)

-- ---- numbers of entries

pub entry_is : (n e : ℕ) → 1 ≤ e → e ≤ n → is_entry n e ≡ true
entry_is n e h k = λ i. le-leb 1 e h i && le-leb e n k i

pub entry_from : (n e : ℕ) → is_entry n e ≡ true → (1 ≤ e) × (e ≤ n)
entry_from n e h = let p = both (nat_le 1 e) (nat_le e n) h in (leb-true 1 e p.0, leb-true e n p.1)
  where
    both : (a b : Bool) → (a && b) ≡ true → (a ≡ true) × (b ≡ true)
    both true b e = (refl, e)
    both false b e = none_true e
      where
        none_true : false ≡ true → (false ≡ true) × (b ≡ true)
        none_true e = cc

pub in_range_from : (a n e : ℕ) → In e (range_with_len a n) → (a ≤ e) × (e < a + n)
in_range_from a zero e h = absurd h
in_range_from a (suc n) e (inl q) = (omega arith, omega arith)
in_range_from a (suc n) e (inr h) = let p = in_range_from (a + 1) n e h in let l : a + 1 ≤ e = p.0 in let u : e < (a + 1) + n = p.1 in (omega arith, omega arith)

pub in_range_to : (a n k : ℕ) → k < n → In (a + k) (range_with_len a n)
in_range_to a zero k h = absurd (omega arith)
in_range_to a (suc n) zero h = inl (let e : a ≡ a + 0 = omega arith in e)
in_range_to a (suc n) (suc k) h = inr (let e : (a + 1) + k ≡ a + suc k = omega arith in subst (λ w. In w (range_with_len (a + 1) n)) e (in_range_to (a + 1) n k (omega arith)))

at_range : (e n : ℕ) → 1 ≤ e → e ≤ n → In e (range_with_len 1 n)
at_range zero n h k = absurd (omega arith)
at_range (suc j) n h k = let q : 1 + j ≡ suc j = omega arith in subst (λ w. In w (range_with_len 1 n)) q (in_range_to 1 n j (omega arith))

-- ---- the walk

flat_map-append : {X Y : Type 0} (f : X → List Y) (xs ys : List X) → flat_map f (xs ++ ys) ≡ flat_map f xs ++ flat_map f ys
flat_map-append f [] ys = refl
flat_map-append f (x ∷ xs) ys = ap (λ w. f x ++ w) (flat_map-append f xs ys) ∙ sym (append_assoc (f x) (flat_map f xs) (flat_map f ys))

module _ (entries : List EntryFsm) (sound : AreSound entries) where
  start_reached : (p : Place) → In p (starts_of entries) → IsBuilt entries (state_of entries p)
  start_reached p h =
      let q = In-map_from (start_of entries) p (range_with_len 1 (length entries)) h in
      let r = in_range_from 1 (length entries) q.0 q.1 in
      let low : 1 ≤ q.0 = r.0 in
      let high : q.0 < 1 + length entries = r.1 in
      subst (λ w. IsBuilt entries (state_of entries w)) q.2 (entry_is (length entries) q.0 low (omega arith), begun)

  -- the places of reached states lead to reached ones
  target_reached : (p q : Place) → IsBuilt entries (state_of entries p) → In q (targets_of entries p) → IsBuilt entries (state_of entries q)
  target_reached p q h i =
      let e = In-map_from (target_of entries p.entry) q (edges_at (graph_at entries p.entry) p.state) i in
      let n = entry_from (length entries) p.entry h.0 in
      subst (λ w. IsBuilt entries (state_of entries w)) e.2
      (h.0, went h.1 (own_letter (reads_of e.0)) (move_of e.0) (edge_step (graph_at entries p.entry) (sound.each p.entry n.0 n.1).machine p.state e.0 e.1))

  pub walk_first : (starts met : List Place) → starts ≡ starts_of entries → met ≡ with_places [] starts → IsWalk entries [] met
  walk_first starts met s e = record {
    walked = e ∙ ap (with_places []) (s ∙ sym (append-nil (starts_of entries)));
    reached = λ p h. elim (places_from starts [] p (subst (In p) e h)) [
      | inl z ↦ absurd z
      | inr i ↦ start_reached p (subst (In p) s i)
    ];
  }

  pub walk_more : (met next : List Place) (i : ℕ) (p : Place) → IsWalk entries (take i met) met → slice_get met i ≡ Some p → next ≡ with_places met (targets_of entries p) → IsWalk entries (take (i + 1) next) next
  walk_more met next i p w at e =
      let x = places_extend (targets_of entries p) met in
      let below : i < length met = get_below met i p at in
      let front : take (i + 1) next ≡ take i met ++ p ∷ [] =
      ap (take (i + 1)) (e ∙ x.1) ∙ take-append-le (i + 1) met x.0 (omega arith) ∙ take_more met i p below ∙ ap (λ q. take i met ++ q ∷ []) (get_or_from_slice_get met i p p at) in
      record {
        walked = e ∙ ap (λ w. with_places w (targets_of entries p)) w.walked
            ∙ sym (places-append (starts_of entries ++ flat_map (targets_of entries) (take i met)) [] (targets_of entries p))
            ∙ ap (with_places []) (append_assoc (starts_of entries) (flat_map (targets_of entries) (take i met)) (targets_of entries p)
            ∙ ap (λ r. starts_of entries ++ r) (ap (λ r. flat_map (targets_of entries) (take i met) ++ r) (sym (append-nil (targets_of entries p)))
            ∙ sym (flat_map-append (targets_of entries) (take i met) (p ∷ [])) ∙ ap (flat_map (targets_of entries)) (sym front)));
        reached = λ q h. elim (places_from (targets_of entries p) met q (subst (In q) e h)) [
          | inl j ↦ w.reached q j
          | inr j ↦ target_reached p q (w.reached p (get_In met i p at)) j
        ];
      }

  pub walk_last : (met : List Place) (i : ℕ) → IsWalk entries (take i met) met → length met ≤ i → IsWalk entries met met
  walk_last met i w h = subst (λ seen. IsWalk entries seen met) (take_all i met h) w

  pub walk_differs : (seen met : List Place) → IsWalk entries seen met → AreDifferent met
  walk_differs seen met w = subst AreDifferent (sym w.walked) (places_differ (starts_of entries ++ flat_map (targets_of entries) seen) [] tt)

  module _ (met : List Place) (w : IsWalk entries met met) where
    pub met_in : (p : Place) → In p (starts_of entries ++ flat_map (targets_of entries) met) → In p met
    met_in p h = subst (In p) (sym w.walked) (places_in (starts_of entries ++ flat_map (targets_of entries) met) [] p h)

    pub start_met : (e : ℕ) → 1 ≤ e → e ≤ length entries → In (start_of entries e) met
    start_met e h k = met_in (start_of entries e) (In-append_left (start_of entries e) (starts_of entries) (flat_map (targets_of entries) met)
        (In-map (start_of entries) e (range_with_len 1 (length entries)) (at_range e (length entries) h k)))

    pub target_met : (p q : Place) → In p met → In q (targets_of entries p) → In q met
    target_met p q h i = met_in q (In-append_right q (starts_of entries) (flat_map (targets_of entries) met) (In-flat_map (targets_of entries) q p met h i))

    -- each state that is reached is met
    pub all_met : (e i : ℕ) → IsBuilt entries (Some (e, i)) → In (record { entry = e; state = i }) met
    all_met e i h =
        let n = entry_from (length entries) e h.0 in
        reach_all (λ i. In (record { entry = e; state = i }) met) (start_met e n.0 n.1) (λ i r j l v s.
        let d = step_edge (graph_at entries e) i l v s in
        target_met (record { entry = e; state = i }) (record { entry = e; state = v.to }) j
        (subst (λ t. In (record { entry = e; state = t }) (targets_of entries (record { entry = e; state = i }))) d.2 (In-map (target_of entries e) d.0 (edges_at (graph_at entries e) i) d.1))) i h.1
