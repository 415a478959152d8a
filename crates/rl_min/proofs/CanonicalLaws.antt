-- The numbers of classes are those of a breadth-first walk.
use Rattle.std.proofs.Common.{◌≡◌, ℕ, zero, suc, ◌+◌, ◌<◌, ◌≤◌, Bool, true, false, not, List, [], ◌∷◌, ◌++◌, ◌⊎◌, map, length, Some, None, Option, option_map, drop, refl, ap, sym, ◌∙◌, subst, inl, inr, arith, true≢false}
use Rattle.std.specs.List.{filter, flat_map, range_with_len}
use Rattle.std.proofs.lemmas.List.{map-append, length-map}
use Rattle.std.proofs.lemmas.List.FromFn.{length-range_with_len}
use Rattle.rl_types.specs.declared.numbers.Key.{Key}
use Rattle.rl_sets.specs.Sets.{In}
use Rattle.rl_sets.proofs.SetLaws.{In-filter, In-filter_from, In-append_left, In-append_right, In-map_from}
use Rattle.rl_fsm.specs.Reads.{ascend}
use Rattle.rl_run.specs.Machine.{Go, Machine}
use Rattle.rl_run.specs.Classes.{class_go}
use Rattle.rl_run.specs.Numbers.{firsts}
use Rattle.rl_model.specs.Parts.{Context, letter_of}
use Rattle.rl_minimal.specs.declared.state.MinEdge.{MinEdge}
use Rattle.rl_minimal.specs.Minimal.{Minimal}
use Rattle.rl_minimal.specs.Machine.{edge_for, edges_at, go_of, min_machine}
use Rattle.rl_minimal.specs.Sound.{AreReads, IsMinimal}
use Rattle.rl_reach.specs.Canonical.{targets_at, is_final, AreCanonical}
use Rattle.rl_reach.specs.Places.{with_places}
use Rattle.rl_reach.proofs.WalkLaws.{in_range_from}
use Rattle.rl_reach.proofs.EdgeLaws.{at, AddSame, AreSorted, hit, firsts_same}
use Rattle.rl_reach.proofs.TargetLaws.{adds_same}
use Rattle.rl_reach.proofs.BreadthLaws.{edges_sorted}
use Rattle.rl_refine.specs.Classes.{AreClasses}
use Rattle.rl_min.specs.Numbering.{class_at, with_classes, IsNumbering}
use Rattle.rl_min.specs.Merged.{number_at, merged_edge, state_for, merged_of}
use Rattle.rl_min.proofs.ListLaws.{added_from, with-append, flat_once, map_once, filter_with, behind, filter_map_same, halves_length, firsts_are}
use Rattle.rl_min.proofs.ClassLaws.{failed, alive, order, final_same}
use Rattle.rl_min.proofs.MergedLaws.{edges_are, edge_merged, looks, reads_same}
use Rattle.rl_min.proofs.SoundLaws.{no_context, two_states}

-- ---- lists

map_flat : (c : ℕ → ℕ) (f : ℕ → List ℕ) (xs : List ℕ) → map c (flat_map f xs) ≡ flat_map (λ x. map c (f x)) xs
map_flat c f [] = refl
map_flat c f (x ∷ xs) = map-append c (f x) (flat_map f xs) ∙ ap (λ w. map c (f x) ++ w) (map_flat c f xs)

flat_of : (c : ℕ → ℕ) (f : ℕ → List ℕ) (xs : List ℕ) → flat_map (λ x. f (c x)) xs ≡ flat_map f (map c xs)
flat_of c f [] = refl
flat_of c f (x ∷ xs) = ap (λ w. f (c x) ++ w) (flat_of c f xs)

targets_merged : (numbers : List ℕ) (es : List MinEdge) → map (number_at numbers) (map (λ (e : MinEdge). e.target) es) ≡ map (λ (e : MinEdge). e.target) (map (merged_edge numbers) es)
targets_merged numbers [] = refl
targets_merged numbers (e ∷ es) = ap (λ w. number_at numbers e.target ∷ w) (targets_merged numbers es)

sorted_merged : (numbers : List ℕ) (es : List MinEdge) → AreSorted es → AreSorted (map (merged_edge numbers) es)
sorted_merged numbers es s = record {
  each = λ e i. let x = In-map_from (merged_edge numbers) e es i in subst AreReads x.2 (let r = s.each x.0 x.1 in record { truths = r.truths; asks = r.asks; keys = r.keys });
  ascending = ap ascend (reads_same numbers es) ∙ s.ascending;
}

not_both : (b : Bool) → b ≡ true → not b ≡ true → ⊥
not_both true e f = true≢false (sym f)
not_both false e f = true≢false (sym e)

module _ (m : Minimal) (minimal : IsMinimal m) (classes numbers states : List ℕ) (alike : AreClasses m classes) (n : IsNumbering classes numbers states) where
  abbrev c : ℕ → ℕ
  c i = number_at numbers i

  abbrev L : Minimal
  L = merged_of m numbers states

  abbrev old : Machine ℕ
  old = min_machine m no_context

  target_is : (o : Option MinEdge) → option_map (λ (e : MinEdge). e.target) (option_map (merged_edge numbers) o) ≡ option_map (λ (g : Go ℕ). g.target) (option_map (class_go old c) (option_map go_of o))
  target_is None = refl
  target_is (Some e) = refl

  hits_same : (i : ℕ) → i < length m.states → (l : Key × ℕ) → hit (map (merged_edge numbers) (edges_at m i)) l ≡ hit (map (merged_edge numbers) (edges_at m (class_at states (c i)))) l
  hits_same i h l =
      let j = class_at states (c i) in
      ap (option_map (λ (e : MinEdge). e.target)) (edge_merged numbers (letter_of l.0 l.1) (edges_at m i)) ∙ target_is (edge_for (letter_of l.0 l.1) (edges_at m i))
      ∙ ap (option_map (λ (g : Go ℕ). g.target)) (sym ((looks m minimal classes numbers states alike n no_context i h).find l.0 l.1))
      ∙ sym (ap (option_map (λ (e : MinEdge). e.target)) (edge_merged numbers (letter_of l.0 l.1) (edges_at m j)) ∙ target_is (edge_for (letter_of l.0 l.1) (edges_at m j)))

  leads_same : (i : ℕ) → i < length m.states → AddSame (map c (targets_at m i)) (targets_at L (c i))
  leads_same i h met =
      let j = class_at states (c i) in
      let es = map (merged_edge numbers) (edges_at m i) in
      let fs = map (merged_edge numbers) (edges_at m j) in
      ap (λ w. with_places met (map at w)) (targets_merged numbers (edges_at m i))
      ∙ adds_same es fs (sorted_merged numbers (edges_at m i) (edges_sorted m minimal i)) (sorted_merged numbers (edges_at m j) (edges_sorted m minimal j)) (hits_same i h) met
      ∙ ap (λ es. with_places met (map at (map (λ (e : MinEdge). e.target) es))) (sym (edges_are m minimal classes numbers states alike n no_context i h))

  module _ (met : List ℕ) (canonical : AreCanonical m met) where
    inside : (i : ℕ) → In i met → (1 ≤ i) × (i < length m.states)
    inside i h =
        let r = in_range_from 1 (length met) i (subst (In i) canonical.counted (by (is_final m i) refl)) in
        let low : 1 ≤ i = r.0 in
        let high : i < 1 + length met = r.1 in
        let whole : length m.states ≡ suc (length met) = canonical.whole in
        (low, omega arith)
      where
        by : (b : Bool) → is_final m i ≡ b → In i (filter (λ i. not (is_final m i)) met ++ filter (is_final m) met)
        by true e = In-append_right i (filter (λ i. not (is_final m i)) met) (filter (is_final m) met) (In-filter (is_final m) i met h e)
        by false e = In-append_left i (filter (λ i. not (is_final m i)) met) (filter (is_final m) met) (In-filter (λ i. not (is_final m i)) i met h (ap not e))

    abbrev pub found : List ℕ
    found = with_classes [] (map c met)

    found_met : found ≡ firsts (L.entries ++ flat_map (targets_at L) found)
    found_met =
        ap (λ w. with_classes [] (map c w)) (canonical.met ∙ sym (firsts_are (m.entries ++ flat_map (targets_at m) met))) ∙ map_once c (m.entries ++ flat_map (targets_at m) met)
        ∙ ap (with_classes []) (map-append c m.entries (flat_map (targets_at m) met) ∙ ap (λ w. map c m.entries ++ w) (map_flat c (targets_at m) met))
        ∙ firsts_are (map c m.entries ++ flat_map (λ i. map c (targets_at m i)) met)
        ∙ firsts_same (map c m.entries) (λ i. map c (targets_at m i)) (λ i. targets_at L (c i)) met (λ i h. leads_same i (inside i h).1)
        ∙ sym (firsts_are (map c m.entries ++ flat_map (λ i. targets_at L (c i)) met))
        ∙ ap (λ w. with_classes [] (map c m.entries ++ w)) (flat_of c (targets_at L) met)
        ∙ with-append (map c m.entries) [] (flat_map (targets_at L) (map c met))
        ∙ sym (flat_once (targets_at L) (map c met) [] (with_classes [] (map c m.entries)))
        ∙ sym (with-append (map c m.entries) [] (flat_map (targets_at L) found))
        ∙ firsts_are (L.entries ++ flat_map (targets_at L) found)

    test_same : (i : ℕ) → In i met → is_final L (c i) ≡ is_final m i
    test_same i h = final_same m minimal classes numbers states alike n no_context i (inside i h).1

    apart : (y : ℕ) → In y (map c (filter (is_final m) met)) → ¬ In y (with_classes [] (map c (filter (λ i. not (is_final m i)) met)))
    apart y f p = by (added_from (map c (filter (λ i. not (is_final m i)) met)) [] y p)
      where
        by : In y [] ⊎ In y (map c (filter (λ i. not (is_final m i)) met)) → ⊥
        by (inl z) = z
        by (inr q) =
            let a = In-map_from c y (filter (is_final m) met) f in
            let b = In-map_from c y (filter (λ i. not (is_final m i)) met) q in
            let s = In-filter_from (is_final m) a.0 met a.1 in
            let t = In-filter_from (λ i. not (is_final m i)) b.0 met b.1 in
            not_both (is_final L y) (ap (is_final L) (sym a.2) ∙ test_same a.0 s.0 ∙ s.1) (ap (λ w. not (is_final L w)) (sym b.2) ∙ ap not (test_same b.0 t.0) ∙ t.1)

    halves : filter (λ p. not (is_final L p)) found ++ filter (is_final L) found ≡ with_classes [] (map c (range_with_len 1 (length met)))
    halves =
        (λ i. (filter_with (λ p. not (is_final L p)) (map c met) [] ∙ ap (with_classes []) (filter_map_same c (λ p. not (is_final L p)) (λ i. not (is_final m i)) met (λ i h. ap not (test_same i h)))) i
        ++ (filter_with (is_final L) (map c met) [] ∙ ap (with_classes []) (filter_map_same c (is_final L) (is_final m) met test_same)) i)
        ∙ sym (behind (map c (filter (is_final m) met)) (with_classes [] (map c (filter (λ i. not (is_final m i)) met))) apart)
        ∙ sym (with-append (map c (filter (λ i. not (is_final m i)) met)) [] (map c (filter (is_final m) met)))
        ∙ ap (with_classes []) (sym (map-append c (filter (λ i. not (is_final m i)) met) (filter (is_final m) met)) ∙ ap (map c) canonical.counted)

    above : (y : ℕ) → In y (map c (range_with_len 1 (length met))) → ¬ In y (c 0 ∷ [])
    above y i (inr z) = z
    above y i (inl e) =
        let x = In-map_from c y (range_with_len 1 (length met)) i in
        let r = in_range_from 1 (length met) x.0 x.1 in
        let low : 1 ≤ x.0 = r.0 in
        let high : x.0 < 1 + length met = r.1 in
        let whole : length m.states ≡ suc (length met) = canonical.whole in
        let live : 0 < c x.0 = alive m minimal classes numbers states alike n no_context x.0 (omega arith) (omega arith) in
        let zero_is : c 0 ≡ 0 = failed m minimal classes numbers states alike n in
        let at : c x.0 ≡ y = x.2 in
        let same : c 0 ≡ y = e in
        omega arith

    -- the numbers of all classes but Error's
    counted_on : (k : ℕ) → length states ≡ suc k → with_classes [] (map c (range_with_len 1 (length met))) ≡ range_with_len 1 k
    counted_on k e =
        ap (drop 1) (sym (behind (map c (range_with_len 1 (length met))) (c 0 ∷ []) above)
        ∙ ap (λ w. with_classes [] (map c (range_with_len 0 w))) (sym canonical.whole) ∙ order m minimal classes numbers states alike n ∙ ap (range_with_len 0) e)

    found_count : (k : ℕ) → length states ≡ suc k → length found ≡ k
    found_count k e = sym (halves_length (is_final L) found) ∙ ap length (halves ∙ counted_on k e) ∙ length-range_with_len 1 k

    some_count : (k : ℕ) × (length states ≡ suc k)
    some_count = by (length states) (two_states m minimal classes numbers states alike n)
      where
        by : (k : ℕ) → 2 ≤ k → (j : ℕ) × (k ≡ suc j)
        by zero h = absurd (omega arith)
        by (suc k) h = (k, refl)

    pub merged_canonical : AreCanonical L found
    merged_canonical =
        let k = some_count in record {
          met = found_met;
          counted = halves ∙ counted_on k.0 k.1 ∙ ap (range_with_len 1) (sym (found_count k.0 k.1));
          whole = length-map states (state_for m.states numbers) ∙ k.1 ∙ ap suc (sym (found_count k.0 k.1));
        }
