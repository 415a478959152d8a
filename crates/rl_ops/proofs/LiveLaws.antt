-- Sweeps mark exactly the states that some word leads from to a final one.
use Rattle.std.proofs.Common.{◌≡◌, ℕ, zero, suc, ◌+◌, ◌<◌, ◌≤◌, Bool, true, false, cond, ◌||◌, List, [], ◌∷◌, ◌⊎◌, length, Option, Some, None, slice_get, replicate, option_map, refl, ap, sym, ◌∙◌, subst, inl, inr, arith, true≢false}
use Rattle.std.specs.Prelude.{slice_set}
use native.Mathlib.Decide.{dec_lt}
use Rattle.std.specs.List.{list_any}
use Rattle.rl_types.specs.declared.numbers.Letter.{Letter}
use Rattle.rl_sets.specs.Sets.{In}
use Rattle.rl_sets.proofs.SetLaws.{any_true, any_from}
use Rattle.rl_automata.specs.declared.moves.Move.{Move}
use Rattle.rl_automata.specs.Auto.{on_part}
use Rattle.rl_automata.specs.Nodes.{Ends, TellsLive}
use Rattle.rl_automata.proofs.Congruence.{some_in, none_in}
use Rattle.rl_fsm.specs.declared.edge.Edge.{Edge}
use Rattle.rl_fsm.specs.declared.state.State.{State}
use Rattle.rl_fsm.specs.Reads.{takes, own_letter}
use Rattle.rl_fsm.specs.Graphs.{Graph, fsm_auto, state_at, edges_at, edge_for, reads_of, move_of}
use Rattle.rl_fsm.specs.Sound.{IsSound}
use Rattle.rl_fsm.proofs.Walks.{finds_each}
use Rattle.rl_ops.specs.Live.{live_at, can_end, AreLive, unmarked, Visits, Sweeps}

either_true : (a b : Bool) → (a || b) ≡ true → (a ≡ true) ⊎ (b ≡ true)
either_true true b e = inl refl
either_true false b e = inr e

either_false : (a b : Bool) → (a || b) ≡ false → (a ≡ false) × (b ≡ false)
either_false true b e = absurd (true≢false e)
either_false false b e = (refl, e)

or_true : (b : Bool) → (b || true) ≡ true
or_true true = refl
or_true false = refl

-- ---- marks

set_length : (live : List Bool) (i : ℕ) → length (slice_set live i true) ≡ length live
set_length [] i = refl
set_length (x ∷ live) zero = refl
set_length (x ∷ live) (suc i) = ap suc (set_length live i)

-- a mark is the new one or an old one
set_marks : (live : List Bool) (i j : ℕ) → live_at (slice_set live i true) j ≡ true → (i ≡ j) ⊎ (live_at live j ≡ true)
set_marks [] i j e = inr e
set_marks (x ∷ live) zero zero e = inl refl
set_marks (x ∷ live) zero (suc j) e = inr e
set_marks (x ∷ live) (suc i) zero e = inr e
set_marks (x ∷ live) (suc i) (suc j) e = elim (set_marks live i j e) [ inl q ↦ inl (ap suc q) | inr q ↦ inr q ]

set_unmarked : (live : List Bool) (i : ℕ) → i < length live → live_at live i ≡ false → unmarked (slice_set live i true) < unmarked live
set_unmarked [] i h e = absurd (omega arith)
set_unmarked (true ∷ live) zero h e = absurd (true≢false e)
set_unmarked (false ∷ live) zero h e = omega arith
set_unmarked (true ∷ live) (suc i) h e = set_unmarked live i (omega arith) e
set_unmarked (false ∷ live) (suc i) h e = let r : unmarked (slice_set live i true) < unmarked live = set_unmarked live i (omega arith) e in omega arith

pub none_live : (n i : ℕ) → live_at (replicate n false) i ≡ false
none_live zero i = refl
none_live (suc n) zero = refl
none_live (suc n) (suc i) = none_live n i

-- ---- words that end

find_in : (l : Letter) (es : List Edge) (e : Edge) → edge_for l es ≡ Some e → In e es
find_in l [] e h = none_in e h
find_in l (f ∷ es) e h =
    (elim (takes l (reads_of f)) as (λ b. cond b (Some f) (edge_for l es) ≡ Some e → In e (f ∷ es)) [
      | true ↦ λ q. inl (some_in f e q)
      | false ↦ λ q. inr (find_in l es e q)
    ]) h

module _ (m : Graph) (h : IsSound m) where
  -- an edge is a step of its own letter
  edge_step : (i : ℕ) (e : Edge) → In e (edges_at m i) → (fsm_auto m).step i (own_letter (reads_of e)) ≡ Some (move_of e)
  edge_step i e j = by (state_at m i) (finds_each m h i e j)
    where
      by : (o : Option State) → edge_for (own_letter (reads_of e)) (on_part [] (λ (s : State). s.edges) o) ≡ Some e → on_part None (λ (s : State). option_map move_of (edge_for (own_letter (reads_of e)) s.edges)) o ≡ Some (move_of e)
      by None q = none_in e q
      by (Some s) q = ap (option_map move_of) q

  ends_if : (live : List Bool) (i : ℕ) → AreLive m live → can_end m live i ≡ true → (w : List Letter) × Ends (fsm_auto m) w i
  ends_if live i a e = elim (either_true ((fsm_auto m).final i) (list_any (λ (e : Edge). live_at live e.target) (edges_at m i)) e) [
    | inl f ↦ ([], f)
    | inr f ↦
        let p = any_from (λ (e : Edge). live_at live e.target) (edges_at m i) f in
        let q = a p.0.target p.2 in
        (own_letter (reads_of p.0) ∷ q.0, (move_of p.0, edge_step i p.0 p.1, q.1))
  ]

  pub sweeps_none : (live : List Bool) (n : ℕ) → length live ≡ n → Sweeps m live live n false
  sweeps_none live n e = record {
    same_length = refl;
    live = λ a. a;
    kept = λ q. refl;
    closed = λ q j l k. absurd (omega arith);
    fewer = λ q. absurd (true≢false (sym q));
  }

  -- the marks, once one more state was visited
  pub sweeps_more : (old live new : List Bool) (i : ℕ) (changed here : Bool) → i < length live → Sweeps m old live (i + 1) changed → Visits m live new i here → Sweeps m old new i (changed || here)
  sweeps_more old live new i changed true b s v = record {
    same_length = ap length v.0 ∙ set_length live i ∙ s.same_length;
    live = λ a j e. elim (set_marks live i j (ap (λ w. live_at w j) (sym v.0) ∙ e)) [
      | inl q ↦ subst (λ w. (x : List Letter) × Ends (fsm_auto m) x w) q (ends_if live i (s.live a) v.2)
      | inr q ↦ s.live a j q
    ];
    kept = λ q. absurd (true≢false (sym (or_true changed) ∙ q));
    closed = λ q. absurd (true≢false (sym (or_true changed) ∙ q));
    fewer = λ q. fewer changed refl;
  }
    where
      less : unmarked new < unmarked live
      less = subst (λ w. unmarked w < unmarked live) (sym v.0) (set_unmarked live i b v.1)

      fewer : (b : Bool) → changed ≡ b → unmarked new < unmarked old
      fewer true e = let l : unmarked new < unmarked live = less in let k : unmarked live < unmarked old = s.fewer e in omega arith
      fewer false e = subst (λ w. unmarked new < unmarked w) (s.kept e) less
  sweeps_more old live new i changed false b s v = record {
    same_length = ap length v.0 ∙ s.same_length;
    live = λ a. subst (AreLive m) (sym v.0) (s.live a);
    kept = λ q. v.0 ∙ s.kept (either_false changed false q).0;
    closed = λ q j l k. subst (λ w. j < length w → can_end m w j ≡ true → live_at w j ≡ true) (sym v.0) (λ k e. by j l k e (either_false changed false q).0) k;
    fewer = λ q. elim (either_true changed false q) [ inl e ↦ subst (λ w. unmarked w < unmarked old) (sym v.0) (s.fewer e) | inr e ↦ absurd (true≢false (sym e)) ];
  }
    where
      by : (j : ℕ) → i ≤ j → j < length live → can_end m live j ≡ true → changed ≡ false → live_at live j ≡ true
      by j l k e n = elim (dec_lt i j) [
        | yes p ↦ s.closed n j (omega arith) k e
        | no p ↦ let q : i ≡ j = omega arith in subst (λ w. can_end m live w ≡ true → live_at live w ≡ true) q v.1 e
      ]

  -- ---- marks to which no more are added

  module _ (live : List Bool) (all : length live ≡ length m.states) (closed : (j : ℕ) → j < length live → can_end m live j ≡ true → live_at live j ≡ true) where
    -- only a state's number is final or has edges
    there : (i : ℕ) → can_end m live i ≡ true → i < length m.states
    there i = by i (state_at m i) refl
      where
        get_below : {X : Type 0} (xs : List X) (i : ℕ) (x : X) → slice_get xs i ≡ Some x → i < length xs
        get_below [] i x e = none_in x e
        get_below (y ∷ xs) zero x e = omega arith
        get_below (y ∷ xs) (suc i) x e = let h : i < length xs = get_below xs i x e in omega arith

        by : (i : ℕ) (o : Option State) → state_at m i ≡ o → (on_part false (λ (s : State). s.fin) o || list_any (λ (e : Edge). live_at live e.target) (on_part [] (λ (s : State). s.edges) o)) ≡ true → i < length m.states
        by i None q e = absurd (true≢false (sym e))
        by i (Some s) q e = get_below m.states i s q

    marked_if : (i : ℕ) → can_end m live i ≡ true → live_at live i ≡ true
    marked_if i e = let b : i < length m.states = there i e in closed i (omega arith) e

    ends_marked : (w : List Letter) (i : ℕ) → Ends (fsm_auto m) w i → live_at live i ≡ true
    ends_marked [] i e = marked_if i (ap (λ b. b || list_any (λ (e : Edge). live_at live e.target) (edges_at m i)) e)
    ends_marked (l ∷ w) i (v, p, e) =
        let q = step_edge (state_at m i) p in
        marked_if i (ap (λ b. (fsm_auto m).final i || b) (any_true (λ (e : Edge). live_at live e.target) q.0 (edges_at m i) q.1 (subst (λ n. live_at live n ≡ true) q.2 (ends_marked w v.to e))) ∙ or_true ((fsm_auto m).final i))
      where
        step_edge : (o : Option State) → on_part None (λ (s : State). option_map move_of (edge_for l s.edges)) o ≡ Some v → (e : Edge) × In e (on_part [] (λ (s : State). s.edges) o) × (v.to ≡ e.target)
        step_edge None q = none_in v q
        step_edge (Some s) q =
            (elim (edge_for l s.edges) as (λ o. edge_for l s.edges ≡ o → option_map move_of o ≡ Some v → (e : Edge) × In e s.edges × (v.to ≡ e.target)) [
              | None ↦ λ r f. none_in v f
              | Some e ↦ λ r f. (e, find_in l s.edges e r, ap (λ (x : Move ℕ). x.to) (sym (some_in (move_of e) v f)))
            ]) refl q

    pub marks_tell : AreLive m live → TellsLive (fsm_auto m) (live_at live)
    marks_tell a i r = ((λ e. a i e), (λ p. ends_marked p.0 i p.1))
