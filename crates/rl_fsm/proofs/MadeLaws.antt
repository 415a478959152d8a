-- The machines of one character, of the empty word, and of no word stand for their expressions.
use Rattle.std.proofs.Common.{◌≡◌, ℕ, zero, suc, ◌<◌, ◌≤◌, ℤ, Bool, true, false, cond, ◌&&◌, ◌||◌, List, [], ◌∷◌, map, Some, None, nat_eq, nat_lt, int_lt, bit_and, bit_or, refl, ap, sym, ◌∙◌, inl, inr, ◌⊎◌, arith, true≢false, option_map}
use Rattle.std.specs.List.{All, filter, list_any}
use Rattle.std.proofs.lemmas.List.Elements.{All-nil, All-cons}
use Rattle.std.proofs.lemmas.Nat.{and_le_r}
use Rattle.rl_types.specs.declared.numbers.Letter.{Letter}
use Rattle.rl_types.specs.KeyRange.{Range, in_range}
use Rattle.rl_sets.proofs.SetLaws.{any_true, any_from, both_ways, In-filter, In-filter_from}
use Rattle.rl_labels.specs.Carries.{no_carry}
use Rattle.rl_automata.specs.declared.moves.Move.{Move}
use Rattle.rl_automata.specs.declared.tree.Kind.{Kind}
use Rattle.rl_automata.specs.declared.tree.Kind.TheVariants.{To, From, Eof, Error}
use Rattle.rl_automata.specs.Auto.{Auto, set_auto, point_auto}
use Rattle.rl_automata.specs.Follows.{Reach, Follows, renamed}
use Rattle.rl_automata.proofs.Congruence.{reach_all, none_in}
use Rattle.rl_fsm.specs.declared.edge.Edge.{Edge}
use Rattle.rl_fsm.specs.declared.state.State.{State}
use Rattle.rl_fsm.specs.Reads.{Reads, asks_at, ascend, is_before, same_range}
use Rattle.rl_fsm.specs.Graphs.{Graph, fsm_auto, reads_of, edge_for, move_of, marks_of}
use Rattle.rl_fsm.specs.Sound.{IsEdge, AreEdges, IsSound}
use Rattle.rl_fsm.specs.Pieces.{AreApart, ArePieces}
use Rattle.rl_fsm.specs.Builds.{Builds, known_after, known_from, and_then}
use Rattle.rl_fsm.specs.Made.{plain_state, set_edge, pieces_in, set_graph, point_graph}
use Rattle.rl_fsm.proofs.PieceLaws.{lt_to}

-- no state is marked
no_marks : (k : Kind) → marks_of k (record { to = []; from = []; eof = []; error = [] }) ≡ []
no_marks To = refl
no_marks From = refl
no_marks Eof = refl
no_marks Error = refl

no_edges : (n : ℕ) → AreEdges n []
no_edges n = record { each = All-nil (IsEdge n); ascending = refl }

-- ---- one state

module _ (fin : Bool) where
  abbrev P : Auto ℕ
  P = fsm_auto (point_graph fin)

  only : (i : ℕ) → Reach P i → i ≡ 0
  only = reach_all (λ i. i ≡ 0) refl (λ i r e l m q. none_in m (ap (λ w. P.step w l) (sym e) ∙ q))

  pub point_sound : IsSound (point_graph fin)
  point_sound = record {
    few = one;
    start = zero_below;
    edges = All-cons (λ (s : State). AreEdges 1 s.edges) (plain_state fin []) [] (no_edges 1) (All-nil (λ (s : State). AreEdges 1 s.edges));
  }
    where
      one : 1 ≤ 2147483646
      one = omega arith

      zero_below : 0 < 1
      zero_below = omega arith

  pub point_builds : Builds (point_auto fin) (point_graph fin)
  point_builds = record {
    sound = point_sound;
    numbered = record { start = refl; known = refl };
    name = λ i. tt;
    follows = record {
      start = refl;
      step = λ i r l. ap (λ w. option_map (renamed (λ i. tt)) (P.step w l)) (only i r);
      final = λ i r. ap P.final (only i r);
      out = λ i r. ap P.out (only i r);
      marks = λ i r k. ap (λ w. P.marks w k) (only i r) ∙ no_marks k;
      asked = λ i r k. ap (λ w. P.asked w k) (only i r);
      apart = λ i j r q e. only i r ∙ sym (only j q);
    };
  }

-- ---- edges at pieces

same_ask : (b : Bool) → ◌≡◌ {A = ℕ} (cond b 0 0) 0
same_ask true = refl
same_ask false = refl

sets_ask_nothing : (k : ℤ) (ps : List Range) → asks_at k (map reads_of (map set_edge ps)) ≡ 0
sets_ask_nothing k [] = refl
sets_ask_nothing k (p ∷ ps) = λ i. bit_or (same_ask (in_range k p) i) (sets_ask_nothing k ps i)

no_truth : (t : ℕ) → bit_and t 0 ≡ 0
no_truth t = let h = and_le_r t 0 in omega arith

abbrev to_second : Move ℕ
to_second = record { to = 1; carry = no_carry }

set_step : (l : Letter) (ps : List Range) → option_map move_of (edge_for l (map set_edge ps)) ≡ cond (list_any (in_range l.key) ps) (Some to_second) None
set_step l [] = refl
set_step l (p ∷ ps) =
    ap (λ n. option_map move_of (cond (in_range l.key p && nat_eq n 0) (Some (set_edge p)) (edge_for l (map set_edge ps)))) (no_truth l.truths)
    ∙ (elim (in_range l.key p) as (λ b. option_map move_of (cond (b && true) (Some (set_edge p)) (edge_for l (map set_edge ps))) ≡ cond (b || list_any (in_range l.key) ps) (Some to_second) None) [
      | true ↦ refl
      | false ↦ set_step l ps
    ])

apart_filter : (p : Range → Bool) (ps : List Range) → AreApart ps → AreApart (filter p ps)
apart_filter p [] a = tt
apart_filter p (q ∷ ps) a =
    elim (p q) as (λ b. AreApart (cond b (q ∷ filter p ps) (filter p ps))) [
      | true ↦ (a.0, (λ r i. a.1 r (In-filter_from p r ps i).0), apart_filter p ps a.2)
      | false ↦ apart_filter p ps a.2
    ]

is_lower : (r s : Reads) → int_lt r.range.hi s.range.lo ≡ true → is_before r s ≡ true
is_lower r s e = ap (λ b. b || (same_range r.range s.range && nat_eq r.asks s.asks && nat_lt r.truths s.truths)) e

sets_ascend : (ps : List Range) → AreApart ps → ascend (map reads_of (map set_edge ps)) ≡ true
sets_ascend [] a = refl
sets_ascend (p ∷ []) a = refl
sets_ascend (p ∷ q ∷ ps) a =
    ap (λ b. b && ascend (map reads_of (map set_edge (q ∷ ps)))) (is_lower (reads_of (set_edge p)) (reads_of (set_edge q)) (lt_to p.hi q.lo (a.1 q (inl refl)))) ∙ sets_ascend (q ∷ ps) a.2

sets_edges : (ps : List Range) → AreApart ps → All (IsEdge 2) (map set_edge ps)
sets_edges [] a = All-nil (IsEdge 2)
sets_edges (p ∷ ps) a = All-cons (IsEdge 2) (set_edge p) (map set_edge ps) (record { target = two; truths = refl; asks = small; keys = a.0 }) (sets_edges ps a.2)
  where
    two : 1 < 2
    two = omega arith

    small : 0 < 256
    small = omega arith

second_known : (ps : List Range) → known_after 2 (map (λ (e : Edge). e.target) (map set_edge ps)) ≡ Some 2
second_known [] = refl
second_known (p ∷ ps) = second_known ps

-- ---- one character

abbrev Covers : List Range → List Range → Type 0
Covers set ps = (k : ℤ) → list_any (in_range k) ps ≡ list_any (in_range k) set

-- the pieces in the set have the keys of the set
pieces_cover : (set ps : List Range) → ArePieces set ps → Covers set (pieces_in set ps)
pieces_cover set ps h k = both_ways _ _
    (λ e. let p = any_from (in_range k) (pieces_in set ps) e in
    let q = In-filter_from (λ r. list_any (in_range r.lo) set) p.0 ps p.1 in
    let r = any_from (in_range p.0.lo) set q.1 in
    any_true (in_range k) r.0 set r.1 (h.whole p.0 r.0 q.0 r.1 k p.2 ∙ r.2))
    (λ e. let r = any_from (in_range k) set e in
    let p = h.covered k r.0 r.1 r.2 in
    any_true (in_range k) p.0 (pieces_in set ps) (In-filter (λ r. list_any (in_range r.lo) set) p.0 ps p.1
    (any_true (in_range p.0.lo) r.0 set r.1 (sym (h.whole p.0 r.0 p.1 r.1 k p.2) ∙ r.2))) p.2)

abbrev side : ℕ → Bool
side zero = false
side (suc i) = true

module _ (set : List Range) where
  no_key : Covers set [] → Builds (set_auto set) (set_graph [])
  no_key h = record {
    sound = point_sound false;
    numbered = record { start = refl; known = refl };
    name = λ i. false;
    follows = record {
      start = refl;
      step = λ i r l. ap (λ w. option_map (renamed (λ i. false)) ((P false).step w l)) (only false i r) ∙ ap (λ b. cond b (Some (record { to = true; carry = no_carry })) None) (h l.key);
      final = λ i r. ap (P false).final (only false i r);
      out = λ i r. ap (P false).out (only false i r);
      marks = λ i r k. ap (λ w. (P false).marks w k) (only false i r) ∙ no_marks k;
      asked = λ i r k. ap (λ w. (P false).asked w k) (only false i r);
      apart = λ i j r q e. only false i r ∙ sym (only false j q);
    };
  }

  module _ (p : Range) (ps : List Range) (a : AreApart (p ∷ ps)) (h : Covers set (p ∷ ps)) where
    abbrev G : Graph
    G = set_graph (p ∷ ps)

    abbrev A : Auto ℕ
    A = fsm_auto G

    abbrev OneOfTwo : ℕ → Type 0
    OneOfTwo i = (i ≡ 0) ⊎ (i ≡ 1)

    first_step : (l : Letter) → A.step 0 l ≡ cond (list_any (in_range l.key) (p ∷ ps)) (Some to_second) None
    first_step l = set_step l (p ∷ ps)

    to_one : (b : Bool) (m : Move ℕ) → cond b (Some to_second) None ≡ Some m → m.to ≡ 1
    to_one true m e = cc
    to_one false m e = cc

    goes_on : (i : ℕ) (l : Letter) (m : Move ℕ) → OneOfTwo i → A.step i l ≡ Some m → OneOfTwo m.to
    goes_on i l m (inl e) q = inr (to_one _ m (sym (first_step l) ∙ ap (λ w. A.step w l) (sym e) ∙ q))
    goes_on i l m (inr e) q = none_in m (ap (λ w. A.step w l) (sym e) ∙ q)

    two_only : (i : ℕ) → Reach A i → OneOfTwo i
    two_only = reach_all OneOfTwo (inl refl) (λ i r o l m q. goes_on i l m o q)

    set_follows : Follows A (set_auto set) side
    set_follows = record {
      start = refl;
      step = λ i r l. by i l (two_only i r);
      final = λ i r. elim (two_only i r) [ inl e ↦ ap A.final e ∙ ap side (sym e) | inr e ↦ ap A.final e ∙ ap side (sym e) ];
      out = λ i r. elim (two_only i r) [ inl e ↦ ap A.out e | inr e ↦ ap A.out e ];
      marks = λ i r k. elim (two_only i r) [ inl e ↦ ap (λ w. A.marks w k) e ∙ no_marks k | inr e ↦ ap (λ w. A.marks w k) e ∙ no_marks k ];
      asked = λ i r k. elim (two_only i r) [ inl e ↦ ap (λ w. A.asked w k) e ∙ sets_ask_nothing k (p ∷ ps) | inr e ↦ ap (λ w. A.asked w k) e ];
      apart = λ i j r q e. same i j (two_only i r) (two_only j q) e;
    }
      where
        named : (b : Bool) → option_map (renamed side) (cond b (Some to_second) None) ≡ cond b (Some (record { to = true; carry = no_carry })) None
        named true = refl
        named false = refl

        by : (i : ℕ) (l : Letter) → OneOfTwo i → option_map (renamed side) (A.step i l) ≡ (set_auto set).step (side i) l
        by i l (inl e) = ap (λ w. option_map (renamed side) (A.step w l)) e ∙ ap (option_map (renamed side)) (first_step l) ∙ named (list_any (in_range l.key) (p ∷ ps))
            ∙ ap (λ b. cond b (Some (record { to = true; carry = no_carry })) None) (h l.key) ∙ ap (λ w. (set_auto set).step (side w) l) (sym e)
        by i l (inr e) = ap (λ w. option_map (renamed side) (A.step w l)) e ∙ ap (λ w. (set_auto set).step (side w) l) (sym e)

        same : (i j : ℕ) → OneOfTwo i → OneOfTwo j → side i ≡ side j → i ≡ j
        same i j (inl e) (inl f) s = e ∙ sym f
        same i j (inl e) (inr f) s = absurd (true≢false (sym (ap side (sym e) ∙ s ∙ ap side f)))
        same i j (inr e) (inl f) s = absurd (true≢false (ap side (sym e) ∙ s ∙ ap side f))
        same i j (inr e) (inr f) s = e ∙ sym f

    some_key : Builds (set_auto set) G
    some_key = record {
      sound = record {
        few = few;
        start = first_there;
        edges = All-cons (λ (s : State). AreEdges 2 s.edges) (plain_state false (map set_edge (p ∷ ps))) (plain_state true [] ∷ [])
            (record { each = sets_edges (p ∷ ps) a; ascending = sets_ascend (p ∷ ps) a })
            (All-cons (λ (s : State). AreEdges 2 s.edges) (plain_state true []) [] (no_edges 2) (All-nil (λ (s : State). AreEdges 2 s.edges)));
      };
      numbered = record { start = refl; known = ap (λ o. and_then o (λ k. known_from 1 k (plain_state true [] ∷ []))) (second_known ps) };
      name = side;
      follows = set_follows;
    }
      where
        few : 2 ≤ 2147483646
        few = omega arith

        first_there : 0 < 2
        first_there = omega arith

pub set_builds : (set ps : List Range) → ArePieces set ps → Builds (set_auto set) (set_graph (pieces_in set ps))
set_builds set ps h = by (pieces_in set ps) (apart_filter (λ r. list_any (in_range r.lo) set) ps h.apart) (pieces_cover set ps h)
  where
    by : (qs : List Range) → AreApart qs → Covers set qs → Builds (set_auto set) (set_graph qs)
    by [] a h = no_key set h
    by (q ∷ qs) a h = some_key set q qs a h
