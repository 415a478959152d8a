-- The arrays of cells and of their entries are right.
use Rattle.std.proofs.Common.{◌≡◌, ℕ, zero, suc, ◌+◌, ◌-◌, ◌^◌, ◌<◌, true, nat_eq, ℤ, pos, ◌≤ℤ◌, ◌<ℤ◌, List, [], ◌∷◌, ◌++◌, length, map, drop, Option, Some, None, refl, sym, ap, ◌∙◌, subst, arith, inl, inr, ◌⊎◌, length-append, IfSome, All}
use Rattle.std.specs.Prelude.{slice_get, count_ones, option_and_then}
use Rattle.std.specs.List.{AllByRecursion, flat_map, range_with_len}
use Rattle.std.specs.Option.{option_map, option_map_or}
use Rattle.std.proofs.lemmas.Option.{slice_get-map, slice_get_within}
use Rattle.std.proofs.lemmas.Nat.{pow_pos}
use Rattle.std.proofs.lemmas.List.{length-map}
use Rattle.std.proofs.lemmas.List.FromFn.{length-map-range_with_len}
use Rattle.std.proofs.lemmas.List.Elements.{recursion_from_All, All-take, All-drop}
use Rattle.rl_types.specs.declared.numbers.ActionId.{ActionId}
use Rattle.rl_arrays.specs.declared.arrays.Arrays.{Arrays}
use Rattle.rl_arrays.specs.declared.arrays.ArrayName.TheVariants as the
use Rattle.rl_arrays.specs.Words.{natural, IfAt, sum_before}
use Rattle.rl_arrays.specs.Lists.{IsList}
use Rattle.rl_arrays.specs.Shared.{Cell as SharedCell, shared, cell_number, places_from}
use Rattle.rl_arrays.specs.TableMachine.{asked_bits, entry_number}
use Rattle.rl_arrays.specs.Sizes as sizes
use Rattle.rl_arrays.specs.Sizes.{IsClosing, IsEntryOf, used_cell, uses_end, shared_cells, cells_end, entries_end, states, one_more, conditions}
use Rattle.rl_arrays.specs.Rules.{UseSays, AskSays, CellEntrySays, TargetOf, TargetSays, StepListSays}
use Rattle.rl_arrays.specs.Valid.{FirstWrong}
use Rattle.rl_model.specs.declared.spec.Spec.{Spec}
use Rattle.rl_minimal.specs.declared.state.MinEdge.{MinEdge}
use Rattle.rl_minimal.specs.declared.state.MinState.{MinState}
use Rattle.rl_minimal.specs.Minimal.{Minimal}
use Rattle.rl_minimal.specs.Sound.{IsMinimal, IsEdge}
use Rattle.rl_layout.specs.declared.runs.Run.{Run}
use Rattle.rl_layout.specs.Runs.{edges_of}
use Rattle.rl_layout.specs.Cells.{ordered_of, asks_of, first_asks, entry_count, edge_at, steps_of, target_of}
use Rattle.rl_layout.specs.Books.{list_of, lists_of, place_in, order_of}
use Rattle.rl_layout.specs.Shares.{leads, cells_used}
use Rattle.rl_layout.specs.SpecArrays.{name_of}
use Rattle.rl_layout.specs.Layout.{arrays_laid}
use Rattle.rl_layout.specs.Fits.{Fits, StateFits, EdgeFits}
use Rattle.rl_layout.proofs.ListLaws.{front_get, all_at, all_from, found_all}
use Rattle.rl_layout.proofs.BookLaws.{listed, steps_listed}
use Rattle.rl_layout.proofs.Segments.{begins, in_segment, map_flat_map}
use Rattle.rl_layout.proofs.SumLaws.{AreLengths, sum_is, begins_all, element, place_of}
use Rattle.rl_layout.proofs.ShareLaws.{shared_there, shared_all, entries_in, place_at, places_length}
use Rattle.rl_layout.proofs.StepLaws.{Cell, cell, cells_in, all_cells, value, used_are, step_there}
use Rattle.rl_layout.proofs.PlaceLaws.{stands_in, is_list}
use Rattle.rl_layout.proofs.ValidBase.{at_map, if_at, right_of, not_negative, lt_pos, states_are, cell_widths, kind_has, kind_may}

-- an element is that of the list, or the closing one
pub data_of : {X : Type 0} → (xs : List X) (k : ℕ) (x y : X) → slice_get (xs ++ y ∷ []) k ≡ Some x → (slice_get xs k ≡ Some x) ⊎ ((k ≡ length xs) × (x ≡ y))
data_of [] zero x y e = inr (refl, (let s : x ≡ y = cc in s))
data_of [] (suc k) x y e = absurd cc
data_of (w ∷ xs) zero x y e = inl e
data_of (w ∷ xs) (suc k) x y e = by (data_of xs k x y e)
  where
    by : (slice_get xs k ≡ Some x) ⊎ ((k ≡ length xs) × (x ≡ y)) → (slice_get xs k ≡ Some x) ⊎ ((suc k ≡ suc (length xs)) × (x ≡ y))
    by (inl h) = inl h
    by (inr h) = let n = h.0 in inr (omega (arith, n), h.1)

range_within : (a n j k : ℕ) → slice_get (range_with_len a n) j ≡ Some k → k < a + n
range_within a zero j k e = absurd cc
range_within a (suc n) zero k e = let same : a ≡ k = cc in omega arith
range_within a (suc n) (suc j) k e = let l : k < (a + 1) + n = range_within (a + 1) n j k e in omega arith

some_pos : (m n : ℕ) → Some (pos m) ≡ Some (pos n) → m ≡ n
some_pos m n e = cc

module _ (spec : Spec) (m : Minimal) (sound : IsMinimal m) (fits : Fits spec m) where
  abbrev pub lists : List (List ActionId)
  lists = lists_of m.states

  abbrev pub order : List ℕ
  order = order_of lists

  abbrev pub a : Arrays
  a = arrays_laid spec lists order m

  abbrev pub cells : List Cell
  cells = all_cells m.states

  -- the cells of all keys, those that are stored, and their entries
  abbrev pub used : List SharedCell
  used = cells_used lists m.states

  abbrev pub kept : List SharedCell
  kept = shared used

  abbrev pub entries : List (ℕ × ℕ)
  entries = flat_map entries_in kept

  -- ---- what stands at cells and entries

  values_are : used ≡ map (value lists) cells
  values_are = used_are lists m.states

  uses_end_is : uses_end a ≡ Some (pos (length cells))
  uses_end_is =
      ap (sum_before (sizes.uses_of a)) (states_are spec lists order m sound)
      ∙ sum_is (sizes.uses_of a) cells_in m.states (cell_widths spec lists order m sound) (length m.states) (omega arith) ∙ ap (λ k. Some (pos k)) (begins_all cells_in m.states)

  used_length : length used ≡ length cells
  used_length = ap (λ (w : List SharedCell). length w) values_are ∙ length-map cells (value lists)

  -- a stored cell is that of a run
  pub record IsOfRun (c : SharedCell) : Type 0 where
    pub place : ℕ
    pub own : Cell
    pub there : slice_get cells place ≡ Some own
    pub is : c ≡ value lists own

  all_of_runs : AllByRecursion IsOfRun kept
  all_of_runs = shared_all IsOfRun used (all_from IsOfRun used (λ k c e.
      let p = at_map (value lists) cells k c (sym (ap (λ w. slice_get w k) values_are) ∙ e) in
      record { place = k; own = p.0; there = p.1; is = p.2 }))

  pub of_run_at : (k : ℕ) (c : SharedCell) → slice_get kept k ≡ Some c → IsOfRun c
  of_run_at k c e = all_at IsOfRun kept k c all_of_runs e

  asks_at : (k : ℕ) (c : SharedCell) → slice_get kept k ≡ Some c → slice_get a.cell_asks k ≡ Some (pos c.asks)
  asks_at k c e = front_get (map (λ (c : SharedCell). pos c.asks) kept) (pos 0 ∷ []) k (pos c.asks)
      (slice_get-map (λ (c : SharedCell). pos c.asks) kept k ∙ ap (option_map (λ (c : SharedCell). pos c.asks)) e)

  entries_count : (c : SharedCell) → IsOfRun c → 2 ^ count_ones c.asks ≡ length c.entries
  entries_count c q =
      let n = sym (length-map-range_with_len (λ j. leads lists (edge_at (asks_of q.own.edges q.own.run) j (edges_of q.own.edges q.own.run))) 0 (entry_count q.own.edges q.own.run)) in
      subst (λ (z : SharedCell). 2 ^ count_ones z.asks ≡ length z.entries) (sym q.is) n

  entry_widths : AreLengths (sizes.entries_of a) entries_in kept
  entry_widths k c e = ap (option_map (λ asks. pos (2 ^ count_ones (natural asks)))) (asks_at k c e) ∙ ap (λ n. Some (pos n)) (entries_count c (of_run_at k c e))

  asks_length : length a.cell_asks ≡ length kept + 1
  asks_length = let n = length-append (map (λ (c : SharedCell). pos c.asks) kept) (pos 0 ∷ []) in let k = length-map kept (λ (c : SharedCell). pos c.asks) in omega (arith, n, k)

  kept_are : shared_cells a ≡ length kept
  kept_are = let n = asks_length in omega (arith, n)

  cells_end_is : cells_end a ≡ Some (pos (length kept))
  cells_end_is = ap (λ n. Some (pos n)) kept_are

  entries_end_is : entries_end a ≡ Some (pos (length entries))
  entries_end_is =
      ap (option_and_then (λ c. sum_before (sizes.entries_of a) (natural c))) cells_end_is
      ∙ sum_is (sizes.entries_of a) entries_in kept entry_widths (length kept) (omega arith) ∙ ap (λ k. Some (pos k)) (begins_all entries_in kept)

  closing_place : (end : Option ℤ) (n k : ℕ) → end ≡ Some (pos n) → IsClosing end k → k ≡ n
  closing_place end n k e h = some_pos k n (sym h ∙ e)

  due_is : (end : Option ℤ) (n h : ℕ) → end ≡ Some (pos n) → h ≡ n + 1 → one_more end h ≡ h
  due_is end n h e q = ap (λ o. one_more o h) e ∙ sym q

  -- what holds of each edge holds of those of a run
  pub of_run : (P : MinEdge → Type 0) (edges : List MinEdge) (r : Run) → All P edges → AllByRecursion P (edges_of edges r)
  of_run P edges r all = recursion_from_All P (edges_of edges r) (All-take P (r.end - r.first) (drop r.first edges) (All-drop P r.first edges all))

  -- ---- uses

  -- the cell of a use stands at its number
  kept_at : (k : ℕ) (c : SharedCell) → slice_get used k ≡ Some c → slice_get kept (cell_number kept c) ≡ Some c
  kept_at k c e = shared_there used k c e

  use_says : (k : ℕ) (x : ℤ) → slice_get a.cell_uses k ≡ Some x → UseSays a k x
  use_says k x e = by (data_of (map (λ c. pos (cell_number kept c)) used) k x (pos 0) e)
    where
      by : (slice_get (map (λ c. pos (cell_number kept c)) used) k ≡ Some x) ⊎ ((k ≡ length (map (λ c. pos (cell_number kept c)) used)) × (x ≡ pos 0)) → UseSays a k x
      by (inr h) =
          let place = h.0 in
          let n = length-map used (λ c. pos (cell_number kept c)) in
          let l = used_length in
          let n_is : k ≡ length cells = omega (arith, place, n, l) in
          record {
            closing = λ _. h.1;
            positive = subst (λ z. pos 0 ≤ℤ z) (sym h.1) (not_negative 0);
            known = λ open_one. absurd (open_one (uses_end_is ∙ ap (λ k. Some (pos k)) (sym n_is)));
          }
      by (inl h) =
          let p = at_map (λ c. pos (cell_number kept c)) used k x h in
          record {
            closing = λ c.
                let q = closing_place (uses_end a) (length cells) k uses_end_is c in
                let l = slice_get_within used k p.0 p.1 in
                let n = used_length in
                absurd (omega (arith, q, l, n));
            positive = subst (λ z. pos 0 ≤ℤ z) (sym p.2) (not_negative (cell_number kept p.0));
            known = λ _. subst (λ z. z <ℤ pos (shared_cells a)) (sym p.2) (lt_pos (cell_number kept p.0) (shared_cells a)
                (let l = slice_get_within kept (cell_number kept p.0) p.0 (kept_at k p.0 p.1) in let n = kept_are in omega (arith, l, n)));
          }

  pub cell_uses_right : FirstWrong a the.CellUses None
  cell_uses_right = right_of a the.CellUses
      (due_is (uses_end a) (length cells) (length a.cell_uses) uses_end_is (let n = length-append (map (λ c. pos (cell_number kept c)) used) (pos 0 ∷ []) in
      let k = length-map used (λ c. pos (cell_number kept c)) in let l = used_length in omega (arith, n, k, l))) (λ i. if_at a.cell_uses i (UseSays a i) (use_says i))

  -- ---- the asked conditions

  some_asks : (es : List MinEdge) → AllByRecursion (EdgeFits spec) es → first_asks es < 2 ^ length spec.conds
  some_asks [] f = pow_pos (length spec.conds)
  some_asks (e ∷ es) f = f.0.asks

  -- the state of a run's cell
  pub record OfState (c : Cell) : Type 0 where
    pub outer : ℕ
    pub state : MinState
    pub there : slice_get m.states outer ≡ Some state
    pub run : Run
    pub inner : ℕ
    pub run_there : slice_get (ordered_of state) inner ≡ Some run
    pub is : c ≡ cell state run

  of_state : (n : ℕ) (c : Cell) → slice_get cells n ≡ Some c → OfState c
  of_state n c e =
      let s = stands_in cells_in m.states n c e in
      let p = at_map (cell s.thing) (ordered_of s.thing) s.inner c s.has in
      record { outer = s.outer; state = s.thing; there = s.there; run = p.0; inner = s.inner; run_there = p.1; is = p.2 }

  few_asks : (k : ℕ) (c : SharedCell) → slice_get kept k ≡ Some c → c.asks < 2 ^ length spec.conds
  few_asks k c e =
      let q = of_run_at k c e in
      let s = of_state q.place q.own q.there in
      let state = all_at (StateFits spec) m.states s.outer s.state (recursion_from_All (StateFits spec) m.states fits.states) s.there in
      subst (λ (z : SharedCell). z.asks < 2 ^ length spec.conds) (sym (q.is ∙ ap (value lists) s.is)) (some_asks (edges_of s.state.edges s.run) (of_run (EdgeFits spec) s.state.edges s.run state.edges))

  conditions_are : conditions a ≡ length spec.conds
  conditions_are = let n = length-map spec.conds (λ (x : ActionId). name_of spec.actions x.0) in omega (arith, n)

  ask_says : (n : ℕ) (x : ℤ) → slice_get a.cell_asks n ≡ Some x → AskSays a n x
  ask_says n x e = by (data_of (map (λ (c : SharedCell). pos c.asks) kept) n x (pos 0) e)
    where
      conds : conditions a ≡ length spec.conds
      conds = conditions_are

      by : (slice_get (map (λ (c : SharedCell). pos c.asks) kept) n ≡ Some x) ⊎ ((n ≡ length (map (λ (c : SharedCell). pos c.asks) kept)) × (x ≡ pos 0)) → AskSays a n x
      by (inr h) = record { closing = λ _. h.1; positive = subst (λ z. pos 0 ≤ℤ z) (sym h.1) (not_negative 0); known = subst (λ z. natural z < 2 ^ conditions a) (sym h.1) (pow_pos (conditions a)) }
      by (inl h) =
          let p = at_map (λ (c : SharedCell). pos c.asks) kept n x h in
          record {
            closing = λ c. let q = closing_place (cells_end a) (length kept) n cells_end_is c in let l = slice_get_within kept n p.0 p.1 in absurd (omega (arith, q, l));
            positive = subst (λ z. pos 0 ≤ℤ z) (sym p.2) (not_negative p.0.asks);
            known = subst (λ z. natural z < 2 ^ conditions a) (sym p.2) (subst (λ k. p.0.asks < 2 ^ k) (sym conds) (few_asks n p.0 p.1));
          }

  pub asks_right : FirstWrong a the.CellAsks None
  asks_right = right_of a the.CellAsks (due_is (cells_end a) (length kept) (length a.cell_asks) cells_end_is asks_length) (λ i. if_at a.cell_asks i (AskSays a i) (ask_says i))

  -- ---- where entries begin

  entry_says : (n : ℕ) (x : ℤ) → slice_get a.cell_entries n ≡ Some x → CellEntrySays a n x
  entry_says n x e = by (data_of (places_from 0 kept) n x (pos 0) e)
    where
      by : (slice_get (places_from 0 kept) n ≡ Some x) ⊎ ((n ≡ length (places_from 0 kept)) × (x ≡ pos 0)) → CellEntrySays a n x
      by (inr h) =
          let place = h.0 in
          let n_is : n ≡ length kept = place ∙ places_length kept 0 in
          record { closing = λ _. h.1; sum = λ open_one. absurd (open_one (cells_end_is ∙ ap (λ k. Some (pos k)) (sym n_is))) }
      by (inl h) =
          let l = slice_get_within (places_from 0 kept) n x h in
          let k = places_length kept 0 in
          let c = element kept n (omega (arith, l, k)) in
          let there = place_at kept 0 n c.0 c.1 in
          let same : x ≡ pos (0 + begins entries_in kept n) = cc in
          let none : 0 + begins entries_in kept n ≡ begins entries_in kept n = omega arith in
          record {
            closing = λ c. let q = closing_place (cells_end a) (length kept) n cells_end_is c in absurd (omega (arith, q, l, k));
            sum = λ _. subst (λ o. IfSome o (λ sum. x ≡ sum)) (sym (sum_is (sizes.entries_of a) entries_in kept entry_widths n (omega (arith, l, k)))) (same ∙ ap (λ w. pos w) none);
          }

  pub cell_entries_right : FirstWrong a the.CellEntries None
  cell_entries_right = right_of a the.CellEntries (let n = length-append (places_from 0 kept) (pos 0 ∷ []) in let k = places_length kept 0 in let q = asks_length in omega (arith, n, k, q)) (λ i. if_at a.cell_entries i (CellEntrySays a i) (entry_says i))

  -- ---- entries

  -- a step that the edges of a run take, under the conditions of one of its entries
  pub record StepOf (q : ℕ) (e : ℕ × ℕ) : Type 0 where
    pub state : MinState
    pub there : slice_get m.states q ≡ Some state
    pub run : Run
    pub inner : ℕ
    pub run_there : slice_get (ordered_of state) inner ≡ Some run
    pub number : ℕ
    pub within : number < entry_count state.edges run
    pub is : e ≡ leads lists (edge_at (asks_of state.edges run) number (edges_of state.edges run))

  -- an entry of the cell of a run
  cell_step : (c : Cell) (j : ℕ) (e : ℕ × ℕ) → slice_get (entries_in (value lists c)) j ≡ Some e
      → (k : ℕ) × (k < entry_count c.edges c.run) × (e ≡ leads lists (edge_at (asks_of c.edges c.run) k (edges_of c.edges c.run)))
  cell_step c j e h =
      let p = at_map (λ k. leads lists (edge_at (asks_of c.edges c.run) k (edges_of c.edges c.run))) (range_with_len 0 (entry_count c.edges c.run)) j e h in
      (p.0, (let l : p.0 < 0 + entry_count c.edges c.run = range_within 0 (entry_count c.edges c.run) j p.0 p.1 in omega arith), p.2)

  pub any_step : (n : ℕ) (e : ℕ × ℕ) → slice_get entries n ≡ Some e → (q : ℕ) × StepOf q e
  any_step n e h =
      let k = stands_in entries_in kept n e h in
      let r = of_run_at k.outer k.thing k.there in
      let s = of_state r.place r.own r.there in
      let d = cell_step (cell s.state s.run) k.inner e (subst (λ z. slice_get (entries_in z) k.inner ≡ Some e) (r.is ∙ ap (value lists) s.is) k.has) in
      (s.outer, record { state = s.state; there = s.there; run = s.run; inner = s.inner; run_there = s.run_there; number = d.0; within = d.1; is = d.2 })

  -- the number that a use has is that of its cell
  cell_of_use : (place : ℕ) (c : Cell) → slice_get cells place ≡ Some c → (number : ℕ) → used_cell a place ≡ Some (pos number) → slice_get kept number ≡ Some (value lists c)
  cell_of_use place c e number h =
      let there : slice_get used place ≡ Some (value lists c) = ap (λ w. slice_get w place) values_are ∙ slice_get-map (value lists) cells place ∙ ap (option_map (value lists)) e in
      let told : slice_get a.cell_uses place ≡ Some (pos (cell_number kept (value lists c))) =
      front_get (map (λ c. pos (cell_number kept c)) used) (pos 0 ∷ []) place (pos (cell_number kept (value lists c)))
      (slice_get-map (λ c. pos (cell_number kept c)) used place ∙ ap (option_map (λ c. pos (cell_number kept c))) there) in
      ap (slice_get kept) (some_pos number (cell_number kept (value lists c)) (sym h ∙ told)) ∙ kept_at place (value lists c) there

  pub step_of_state : (q n : ℕ) (e : ℕ × ℕ) → slice_get entries n ≡ Some e → IsEntryOf a q n → StepOf q e
  step_of_state q n e at h =
      let less : q < length m.states = subst (λ k. q < k) (states_are spec lists order m sound) h.state in
      let c = place_of (sizes.uses_of a) cells_in m.states (cell_widths spec lists order m sound) q h.place less h.of_state in
      let one = element (cells_in c.thing) c.inner c.within in
      let p = at_map (cell c.thing) (ordered_of c.thing) c.inner one.0 one.1 in
      let own : slice_get cells h.place ≡ Some one.0 = ap (slice_get cells) c.place_is ∙ in_segment cells_in m.states q c.inner c.thing one.0 c.there one.1 in
      let there = cell_of_use h.place one.0 own h.cell h.of_use in
      let d = place_of (sizes.entries_of a) entries_in kept entry_widths h.cell n (slice_get_within kept h.cell (value lists one.0) there) h.of_cell in
      let same : d.thing ≡ value lists one.0 = let t = d.there in cc in
      let w = element (entries_in d.thing) d.inner d.within in
      let here : slice_get entries n ≡ Some w.0 = ap (slice_get entries) d.place_is ∙ in_segment entries_in kept h.cell d.inner d.thing w.0 d.there w.1 in
      let k = cell_step (cell c.thing p.0) d.inner e (subst (λ z. slice_get (entries_in z) d.inner ≡ Some e) (same ∙ ap (value lists) p.2) (w.1 ∙ sym here ∙ at)) in
      record { state = c.thing; there = c.there; run = p.0; inner = c.inner; run_there = p.1; number = k.0; within = k.1; is = k.2 }

  -- ---- targets

  -- the list of a step is listed
  pub list_listed : (q : ℕ) (e : ℕ × ℕ) (s : StepOf q e) → listed lists (list_of (edge_at (asks_of s.state.edges s.run) s.number (edges_of s.state.edges s.run))) ≡ true
  list_listed q e s = all_at (λ o. listed lists (list_of o) ≡ true) (flat_map steps_of m.states) _ (edge_at (asks_of s.state.edges s.run) s.number (edges_of s.state.edges s.run)) (steps_listed m.states)
      (step_there spec lists order m q s.state s.there s.inner s.run s.run_there s.number s.within)

  -- the edge of a step is one of its state
  edge_fits : (q : ℕ) (e : ℕ × ℕ) (s : StepOf q e) (x : MinEdge) → edge_at (asks_of s.state.edges s.run) s.number (edges_of s.state.edges s.run) ≡ Some x → IsEdge m.states s.state x
  edge_fits q e s x h =
      found_all (IsEdge m.states s.state) (λ e. nat_eq (entry_number (asked_bits (asks_of s.state.edges s.run)) e.truths.0) s.number) (edges_of s.state.edges s.run) x
      (of_run (IsEdge m.states s.state) s.state.edges s.run (sound.states q s.state s.there).edges.each) h

  -- any step that stands at an entry leads to a state that is there; without a target it has no list
  pub record IsGood (e : ℕ × ℕ) : Type 0 where
    pub there : e.0 < length m.states
    pub stays : e.0 ≡ 0 → e.1 ≡ 0

  any_good : (n : ℕ) (e : ℕ × ℕ) → slice_get entries n ≡ Some e → IsGood e
  any_good n e h = subst IsGood (sym s.1.is) (by (edge_at (asks_of s.1.state.edges s.1.run) s.1.number (edges_of s.1.state.edges s.1.run)) refl)
    where
      s : (q : ℕ) × StepOf q e
      s = any_step n e h

      by : (o : Option MinEdge) → edge_at (asks_of s.1.state.edges s.1.run) s.1.number (edges_of s.1.state.edges s.1.run) ≡ o → IsGood (leads lists o)
      by None t = record { there = let c = sound.counts.states in omega (arith, c); stays = λ z. refl }
      by (Some x) t = let edge = edge_fits s.0 e s.1 x t in let l = edge.target.alive in record { there = edge.target.there; stays = λ z. absurd (omega (arith, l, z)) }

  target_says : (n : ℕ) (e : ℕ × ℕ) → slice_get entries n ≡ Some e → TargetSays a n (pos e.0)
  target_says n e at = record {
    closing = λ c. let q = closing_place (entries_end a) (length entries) n entries_end_is c in let l = slice_get_within entries n e at in absurd (omega (arith, q, l));
    state = (not_negative e.0, lt_pos e.0 (states a) (let k = states_are spec lists order m sound in let g = (any_good n e at).there in omega (arith, k, g)));
    kinds = λ q h. let s = step_of_state q n e at h in subst (λ (z : ℕ × ℕ). TargetOf a q (pos z.0)) (sym s.is) (of_edge q s (edge_at (asks_of s.state.edges s.run) s.number (edges_of s.state.edges s.run)) refl);
  }
    where
      told : (f : MinState → ℕ) (i : ℕ) (t : MinState) → slice_get m.states i ≡ Some t → option_map_or f (slice_get m.states i) 0 ≡ f t
      told f i t e = ap (λ o. option_map_or f o 0) e

      of_edge : (q : ℕ) (s : StepOf q e) (o : Option MinEdge) → edge_at (asks_of s.state.edges s.run) s.number (edges_of s.state.edges s.run) ≡ o → TargetOf a q (pos (target_of o))
      of_edge q s None h = record {
        plain = λ _. kind_may spec lists order m sound 0 0 0 (λ t e. let k = (sound.error t e).kind in (omega (arith, k), omega (arith, k)));
        inner = λ _ some. absurd (some refl);
        home = λ _ some. absurd (some refl);
      }
      of_edge q s (Some x) h = let target = (edge_fits q e s x h).target.stays in record {
        plain = λ k. let b = kind_has spec lists order m sound q s.state 0 0 s.there k in kind_may spec lists order m sound x.target 0 0 (λ t e. let c = target.plain (omega (arith, b)) in let d = told (λ s. s.kind) x.target t e in (omega (arith, c, d), omega (arith, c, d)));
        inner = λ k _. let b = kind_has spec lists order m sound q s.state 1 3 s.there k in kind_may spec lists order m sound x.target 2 4 (λ t e. let c = target.inner (omega (arith, b)) in let d = told (λ s. s.kind) x.target t e in (omega (arith, c, d), (sound.states x.target t e).kind.known));
        home = λ k _. let b = kind_has spec lists order m sound q s.state 1 3 s.there k in if_at a.homes q (λ home. IfAt a.homes x.target (λ other. other ≡ home)) (λ y e. if_at a.homes x.target (λ other. other ≡ y) (λ z f.
            let p = at_map (λ s. pos s.home) m.states q y e in
            let r = at_map (λ s. pos s.home) m.states x.target z f in
            let same : p.0 ≡ s.state = let t = s.there in let u = p.1 in cc in
            r.2 ∙ ap (λ w. pos w) (sym (told (λ s. s.home) x.target r.0 r.1) ∙ target.same_home (omega (arith, b)) ∙ ap (λ (t : MinState). t.home) (sym same)) ∙ sym p.2));
      }

  -- the closing entry is none of a state
  pub not_of_state : (q n : ℕ) → n ≡ length entries → IsEntryOf a q n → ⊥
  not_of_state q n z h =
      let less : q < length m.states = subst (λ k. q < k) (states_are spec lists order m sound) h.state in
      let c = place_of (sizes.uses_of a) cells_in m.states (cell_widths spec lists order m sound) q h.place less h.of_state in
      let one = element (cells_in c.thing) c.inner c.within in
      let own : slice_get cells h.place ≡ Some one.0 = ap (slice_get cells) c.place_is ∙ in_segment cells_in m.states q c.inner c.thing one.0 c.there one.1 in
      let there = cell_of_use h.place one.0 own h.cell h.of_use in
      let d = place_of (sizes.entries_of a) entries_in kept entry_widths h.cell n (slice_get_within kept h.cell (value lists one.0) there) h.of_cell in
      let w = element (entries_in d.thing) d.inner d.within in
      let here : slice_get entries n ≡ Some w.0 = ap (slice_get entries) d.place_is ∙ in_segment entries_in kept h.cell d.inner d.thing w.0 d.there w.1 in
      let l = slice_get_within entries n w.0 here in
      omega (arith, l, z)

  -- an array by entry, made of the entries one after another
  by_entry : (g : ℕ × ℕ → ℤ) → flat_map (λ c. map g (entries_in c)) kept ≡ map g entries
  by_entry g = sym (map_flat_map g entries_in kept)

  -- an element of such an array is that of an entry, or the closing one
  pub entry_of_element : (g : ℕ × ℕ → ℤ) (n : ℕ) (x : ℤ) → slice_get (flat_map (λ c. map g (entries_in c)) kept ++ pos 0 ∷ []) n ≡ Some x
      → ((e : ℕ × ℕ) × (slice_get entries n ≡ Some e) × (x ≡ g e)) ⊎ ((n ≡ length entries) × (x ≡ pos 0))
  entry_of_element g n x e = by (data_of (flat_map (λ c. map g (entries_in c)) kept) n x (pos 0) e)
    where
      by : (slice_get (flat_map (λ c. map g (entries_in c)) kept) n ≡ Some x) ⊎ ((n ≡ length (flat_map (λ c. map g (entries_in c)) kept)) × (x ≡ pos 0))
          → ((e : ℕ × ℕ) × (slice_get entries n ≡ Some e) × (x ≡ g e)) ⊎ ((n ≡ length entries) × (x ≡ pos 0))
      by (inl h) = inl (at_map g entries n x (sym (ap (λ w. slice_get w n) (by_entry g)) ∙ h))
      by (inr h) = inr (h.0 ∙ ap (λ (w : List ℤ). length w) (by_entry g) ∙ length-map entries g, h.1)

  array_length : (g : ℕ × ℕ → ℤ) → length (flat_map (λ c. map g (entries_in c)) kept ++ pos 0 ∷ []) ≡ length entries + 1
  array_length g =
      let n = length-append (flat_map (λ c. map g (entries_in c)) kept) (pos 0 ∷ []) in
      let k = ap (λ (w : List ℤ). length w) (by_entry g) ∙ length-map entries g in
      omega (arith, n, k)

  targets_say : (n : ℕ) (x : ℤ) → slice_get a.trans_targs n ≡ Some x → TargetSays a n x
  targets_say n x e = by (entry_of_element (λ e. pos e.0) n x e)
    where
      by : ((e : ℕ × ℕ) × (slice_get entries n ≡ Some e) × (x ≡ pos e.0)) ⊎ ((n ≡ length entries) × (x ≡ pos 0)) → TargetSays a n x
      by (inl p) = subst (TargetSays a n) (sym p.2) (target_says n p.0 p.1)
      by (inr h) = subst (TargetSays a n) (sym h.1) (record {
        closing = λ _. refl;
        state = (not_negative 0, lt_pos 0 (states a) (let k = states_are spec lists order m sound in let c = sound.counts.states in omega (arith, k, c)));
        kinds = λ q k. absurd (not_of_state q n h.0 k);
      })

  pub targets_right : FirstWrong a the.TransTargs None
  targets_right = right_of a the.TransTargs (due_is (entries_end a) (length entries) (length a.trans_targs) entries_end_is (array_length (λ e. pos e.0))) (λ i. if_at a.trans_targs i (TargetSays a i) (targets_say i))

  -- ---- the lists of steps

  entry_list : (n : ℕ) (e : ℕ × ℕ) → slice_get entries n ≡ Some e → IsList a.actions (pos e.1)
  entry_list n e at =
      let s = any_step n e at in
      let o = edge_at (asks_of s.1.state.edges s.1.run) s.1.number (edges_of s.1.state.edges s.1.run) in
      subst (λ (z : ℕ × ℕ). IsList a.actions (pos z.1)) (sym s.1.is) (is_list order lists (list_of o) (list_listed s.0 e s.1))

  lists_say : (n : ℕ) (x : ℤ) → slice_get a.trans_lists n ≡ Some x → StepListSays a n x
  lists_say n x e = by (entry_of_element (λ e. pos e.1) n x e)
    where
      by : ((e : ℕ × ℕ) × (slice_get entries n ≡ Some e) × (x ≡ pos e.1)) ⊎ ((n ≡ length entries) × (x ≡ pos 0)) → StepListSays a n x
      by (inr h) = subst (StepListSays a n) (sym h.1) (record { closing = λ _. refl; list = is_list order lists [] refl; stays = λ _. refl })
      by (inl p) =
          subst (StepListSays a n) (sym p.2) (record {
            closing = λ c. let q = closing_place (entries_end a) (length entries) n entries_end_is c in let l = slice_get_within entries n p.0 p.1 in absurd (omega (arith, q, l));
            list = entry_list n p.0 p.1;
            stays = λ t.
                let there : slice_get a.trans_targs n ≡ Some (pos p.0.0) = front_get (flat_map (λ c. map (λ (e : ℕ × ℕ). pos e.0) (entries_in c)) kept) (pos 0 ∷ []) n (pos p.0.0)
                (ap (λ w. slice_get w n) (by_entry (λ e. pos e.0)) ∙ slice_get-map (λ (e : ℕ × ℕ). pos e.0) entries n ∙ ap (option_map (λ (e : ℕ × ℕ). pos e.0)) p.1) in
                ap (λ k. pos k) ((any_good n p.0 p.1).stays (some_pos p.0.0 0 (sym there ∙ t)));
          })

  pub step_lists_right : FirstWrong a the.TransLists None
  step_lists_right = right_of a the.TransLists (array_length (λ e. pos e.0) ∙ sym (array_length (λ e. pos e.1))) (λ i. if_at a.trans_lists i (StepListSays a i) (lists_say i))
