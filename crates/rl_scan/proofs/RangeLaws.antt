-- The ranges of the edges tell what configurations do.
use Rattle.std.proofs.Common.{◌≡◌, ℕ, ℤ, Bool, true, false, cond, not, ◌&&◌, List, [], ◌∷◌, ◌++◌, Option, Some, None, option_map, map, refl, ap, sym, ◌∙◌, inl, inr, bit_and, bit_or, nat_eq}
use Rattle.std.proofs.lemmas.Nat.{or_comm}
use Rattle.std.specs.Int.Bits.{or_self}
use Rattle.rl_types.specs.declared.numbers.Letter.{Letter}
use Rattle.rl_types.specs.KeyRange.{Range, in_range}
use Rattle.rl_sets.specs.Sets.{In}
use Rattle.rl_sets.proofs.SetLaws.{In-append_left, In-append_right}
use Rattle.rl_automata.specs.declared.moves.Move.{Move}
use Rattle.rl_automata.specs.Auto.{on_part, step_to, is_none_left}
use Rattle.rl_fsm.specs.declared.edge.Edge.{Edge}
use Rattle.rl_fsm.specs.declared.state.State.{State}
use Rattle.rl_fsm.specs.Reads.{Reads, takes, own_asks, asks_at}
use Rattle.rl_fsm.specs.Graphs.{Graph, fsm_auto, state_at, reads_of, edge_for, move_of, ranges_of, ranges_at}
use Rattle.rl_fsm.proofs.Bits.{or_or, and_and}
use Rattle.rl_explore.specs.Ranges.{at, ReadsRanges, AsksRanges, AreRanges}
use Rattle.rl_scan.specs.Beside.{first_part, behind, steps_at, carried, kept_parts, kept_labels, settled, is_jammed, all_asked, all_ranges, side_auto, side_jams}

-- ---- conditions among others

abbrev Inside : ℕ → ℕ → Type 0
Inside a b = bit_or a b ≡ b

inside_left : (a b : ℕ) → Inside a (bit_or a b)
inside_left a b = sym (or_or a a b) ∙ ap (λ w. bit_or w b) (or_self a)

inside_right : (a b : ℕ) → Inside b (bit_or a b)
inside_right a b = ap (bit_or b) (or_comm a b) ∙ inside_left b a ∙ or_comm b a

-- ---- what is told of letters

abbrev Within : List Range → List Range → Type 0
Within rs ss = (r : Range) → In r rs → In r ss

module _ {X : Type 0} where
  -- what is always the same
  reads_const : (rs : List Range) (a : ℤ → ℕ) (n : X) → ReadsRanges rs a n (λ l. n)
  reads_const rs a n = record { alike = λ j k e t. refl; outside = λ k o t. refl; told = λ k t. refl }

  -- more ranges and more conditions tell no less
  reads_wider : (rs ss : List Range) (a b : ℤ → ℕ) (n : X) (f : Letter → X) → Within rs ss → ((k : ℤ) → Inside (a k) (b k)) → ReadsRanges rs a n f → ReadsRanges ss b n f
  reads_wider rs ss a b n f sub ins h = record {
    alike = λ j k e t. h.alike j k (λ r i. e r (sub r i)) t;
    outside = λ k o t. h.outside k (λ r i. o r (sub r i)) t;
    told = λ k t. h.told k t ∙ ap (λ w. f (at k w)) (sym (and_and t (b k) (a k) (ins k))) ∙ sym (h.told k (bit_and t (b k)));
  }

  reads_as : (rs : List Range) (a : ℤ → ℕ) (n m : X) (f : Letter → X) → n ≡ m → ReadsRanges rs a n f → ReadsRanges rs a m f
  reads_as rs a n m f e h = record { alike = h.alike; outside = λ k o t. h.outside k o t ∙ e; told = h.told }

module _ {X Y : Type 0} where
  reads_map : (rs : List Range) (a : ℤ → ℕ) (n : X) (f : Letter → X) (g : X → Y) → ReadsRanges rs a n f → ReadsRanges rs a (g n) (λ l. g (f l))
  reads_map rs a n f g h = record {
    alike = λ j k e t. ap g (h.alike j k e t);
    outside = λ k o t. ap g (h.outside k o t);
    told = λ k t. ap g (h.told k t);
  }

  reads_pair : (rs : List Range) (a : ℤ → ℕ) (n : X) (m : Y) (f : Letter → X) (g : Letter → Y) → ReadsRanges rs a n f → ReadsRanges rs a m g → ReadsRanges {X = X × Y} rs a (n, m) (λ l. (f l, g l))
  reads_pair rs a n m f g h k = record {
    alike = λ i j e t. λ x. (h.alike i j e t x, k.alike i j e t x);
    outside = λ i o t. λ x. (h.outside i o t x, k.outside i o t x);
    told = λ i t. λ x. (h.told i t x, k.told i t x);
  }

-- ---- what is asked

asks_wider : (rs ss : List Range) (a : ℤ → ℕ) → Within rs ss → AsksRanges rs a → AsksRanges ss a
asks_wider rs ss a sub h = record { alike = λ j k e. h.alike j k (λ r i. e r (sub r i)); outside = λ k o. h.outside k (λ r i. o r (sub r i)) }

asks_none : (rs : List Range) → AsksRanges rs (λ k. 0)
asks_none rs = record { alike = λ j k e. refl; outside = λ k o. refl }

asks_both : (rs : List Range) (a b : ℤ → ℕ) → AsksRanges rs a → AsksRanges rs b → AsksRanges rs (λ k. bit_or (a k) (b k))
asks_both rs a b h g = record { alike = λ j k e. λ i. bit_or (h.alike j k e i) (g.alike j k e i); outside = λ k o. λ i. bit_or (h.outside k o i) (g.outside k o i) }

-- ---- edges

takes_reads : (r : Reads) → ReadsRanges (r.range ∷ []) (λ k. own_asks k r) false (λ l. takes l r)
takes_reads r = record {
  alike = λ j k e t. ap (λ b. b && nat_eq (bit_and t r.asks) r.truths) (e r.range (inl refl));
  outside = λ k o t. ap (λ b. b && nat_eq (bit_and t r.asks) r.truths) (o r.range (inl refl));
  told = λ k t. told k t (in_range k r.range) refl;
}
  where
    told : (k : ℤ) (t : ℕ) (b : Bool) → in_range k r.range ≡ b → takes (at k t) r ≡ takes (at k (bit_and t (own_asks k r))) r
    told k t true e = ap (λ w. in_range k r.range && nat_eq w r.truths) (sym (and_and t r.asks r.asks (or_self r.asks))) ∙ ap (λ w. in_range k r.range && nat_eq (bit_and (bit_and t (cond w r.asks 0)) r.asks) r.truths) (sym e)
    told k t false e = ap (λ w. w && nat_eq (bit_and t r.asks) r.truths) e ∙ ap (λ w. w && nat_eq (bit_and (bit_and t (own_asks k r)) r.asks) r.truths) (sym e)

edges_read : (es : List Edge) → ReadsRanges (ranges_of es) (λ k. asks_at k (map reads_of es)) None (λ l. edge_for l es)
edges_read [] = reads_const [] (λ k. 0) None
edges_read (e ∷ es) =
    let rs = e.range ∷ ranges_of es in
    let a : ℤ → ℕ = λ k. bit_or (own_asks k (reads_of e)) (asks_at k (map reads_of es)) in
    let one : Within (e.range ∷ []) rs = λ r i. elim i [ inl q ↦ inl q | inr z ↦ absurd z ] in
    reads_map {X = Bool × Option Edge} rs a (false, None) (λ l. (takes l (reads_of e), edge_for l es)) (λ p. cond p.0 (Some e) p.1)
    (reads_pair rs a false None (λ l. takes l (reads_of e)) (λ l. edge_for l es)
    (reads_wider (e.range ∷ []) rs (λ k. own_asks k (reads_of e)) a false (λ l. takes l (reads_of e)) one (λ k. inside_left (own_asks k (reads_of e)) (asks_at k (map reads_of es))) (takes_reads (reads_of e)))
    (reads_wider (ranges_of es) rs (λ k. asks_at k (map reads_of es)) a None (λ l. edge_for l es) (λ r i. inr i) (λ k. inside_right (own_asks k (reads_of e)) (asks_at k (map reads_of es))) (edges_read es)))

edges_ask : (es : List Edge) → AsksRanges (ranges_of es) (λ k. asks_at k (map reads_of es))
edges_ask [] = asks_none []
edges_ask (e ∷ es) =
    let rs = e.range ∷ ranges_of es in
    asks_both rs (λ k. own_asks k (reads_of e)) (λ k. asks_at k (map reads_of es))
    (record { alike = λ j k q. ap (λ b. cond b e.asks.0 0) (q e.range (inl refl)); outside = λ k o. ap (λ b. cond b e.asks.0 0) (o e.range (inl refl)) })
    (asks_wider (ranges_of es) rs (λ k. asks_at k (map reads_of es)) (λ r i. inr i) (edges_ask es))

-- ---- states, which may be absent

state_reads : (m : Graph) (i : ℕ) → ReadsRanges (ranges_at m i) ((fsm_auto m).asked i) None ((fsm_auto m).step i)
state_reads m i = by (state_at m i)
  where
    by : (o : Option State) → ReadsRanges (on_part [] (λ (s : State). ranges_of s.edges) o) (λ k. on_part 0 (λ (s : State). asks_at k (map reads_of s.edges)) o) None (λ l. on_part None (λ (s : State). option_map move_of (edge_for l s.edges)) o)
    by None = reads_const [] (λ k. 0) None
    by (Some s) = reads_map (ranges_of s.edges) (λ k. asks_at k (map reads_of s.edges)) None (λ l. edge_for l s.edges) (option_map move_of) (edges_read s.edges)

state_asks : (m : Graph) (i : ℕ) → AsksRanges (ranges_at m i) ((fsm_auto m).asked i)
state_asks m i = by (state_at m i)
  where
    by : (o : Option State) → AsksRanges (on_part [] (λ (s : State). ranges_of s.edges) o) (λ k. on_part 0 (λ (s : State). asks_at k (map reads_of s.edges)) o)
    by None = asks_none []
    by (Some s) = edges_ask s.edges

abbrev part_ranges : Graph → Option ℕ → List Range
part_ranges m part = on_part [] (ranges_at m) part

abbrev part_asks : Graph → Option ℕ → ℤ → ℕ
part_asks m part k = on_part 0 (λ s. (fsm_auto m).asked s k) part

abbrev part_step : Graph → Option ℕ → Letter → Option (Move ℕ)
part_step m part l = on_part None (λ s. (fsm_auto m).step s l) part

part_reads : (m : Graph) (part : Option ℕ) → ReadsRanges (part_ranges m part) (part_asks m part) None (part_step m part)
part_reads m None = reads_const [] (λ k. 0) None
part_reads m (Some i) = state_reads m i

parts_ask : (m : Graph) (part : Option ℕ) → AsksRanges (part_ranges m part) (part_asks m part)
parts_ask m None = asks_none []
parts_ask m (Some i) = state_asks m i

-- ---- machines side by side

-- no machine steps
abbrev no_steps : List Graph → List (Option (Move ℕ))
no_steps [] = []
no_steps (m ∷ ms) = None ∷ no_steps ms

sides_read : (ms : List Graph) (c : List (Option ℕ)) → ReadsRanges (all_ranges ms c) (all_asked ms c) (no_steps ms) (steps_at ms c)
sides_read [] c = reads_const [] (λ k. 0) []
sides_read (m ∷ ms) c =
    let o = first_part c in
    let d = behind c in
    let v = part_ranges m o in
    let w = all_ranges ms d in
    let q : ℤ → ℕ = λ k. bit_or (part_asks m o k) (all_asked ms d k) in
    reads_map {X = Option (Move ℕ) × List (Option (Move ℕ))} (v ++ w) q (None, no_steps ms) (λ l. (part_step m o l, steps_at ms d l)) (λ p. p.0 ∷ p.1)
    (reads_pair (v ++ w) q None (no_steps ms) (part_step m o) (steps_at ms d)
    (reads_wider v (v ++ w) (part_asks m o) q None (part_step m o) (λ r i. In-append_left r v w i) (λ k. inside_left (part_asks m o k) (all_asked ms d k)) (part_reads m o))
    (reads_wider w (v ++ w) (all_asked ms d) q (no_steps ms) (steps_at ms d) (λ r i. In-append_right r v w i) (λ k. inside_right (part_asks m o k) (all_asked ms d k)) (sides_read ms d)))

sides_ask : (ms : List Graph) (c : List (Option ℕ)) → AsksRanges (all_ranges ms c) (all_asked ms c)
sides_ask [] c = asks_none []
sides_ask (m ∷ ms) c =
    let v = part_ranges m (first_part c) in
    let w = all_ranges ms (behind c) in
    asks_both (v ++ w) (part_asks m (first_part c)) (all_asked ms (behind c))
    (asks_wider v (v ++ w) (part_asks m (first_part c)) (λ r i. In-append_left r v w i) (parts_ask m (first_part c)))
    (asks_wider w (v ++ w) (all_asked ms (behind c)) (λ r i. In-append_right r v w i) (sides_ask ms (behind c)))

none_carried : (ms : List Graph) → carried (no_steps ms) ≡ []
none_carried [] = refl
none_carried (m ∷ ms) = none_carried ms

none_kept : (ms : List Graph) → kept_labels [] (no_steps ms) ≡ []
none_kept [] = refl
none_kept (m ∷ ms) = none_kept ms

none_settled : (ms : List Graph) → settled (no_steps ms) ≡ None
none_settled ms =
    ap (λ all. step_to (kept_parts all (no_steps ms)) (kept_labels all (no_steps ms))) (none_carried ms)
    ∙ ap (λ labels. step_to (kept_parts [] (no_steps ms)) labels) (none_kept ms)

none_jam : (ms : List Graph) → is_jammed (no_steps ms) ≡ false
none_jam ms = ap (λ all. not (is_none_left all) && is_none_left (kept_labels all (no_steps ms))) (none_carried ms)

pub side_are : (ms : List Graph) (c : List (Option ℕ)) → AreRanges (side_auto ms) (side_jams ms) c (all_ranges ms c)
side_are ms c = record {
  steps = reads_as (all_ranges ms c) (all_asked ms c) (settled (no_steps ms)) None (λ l. settled (steps_at ms c l)) (none_settled ms) (reads_map (all_ranges ms c) (all_asked ms c) (no_steps ms) (steps_at ms c) settled (sides_read ms c));
  cycles = reads_as (all_ranges ms c) (all_asked ms c) (is_jammed (no_steps ms)) false (λ l. is_jammed (steps_at ms c l)) (none_jam ms) (reads_map (all_ranges ms c) (all_asked ms c) (no_steps ms) (steps_at ms c) is_jammed (sides_read ms c));
  asks = sides_ask ms c;
}
