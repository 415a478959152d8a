-- The states of a walk's places make a machine.
use Rattle.std.proofs.Common.{◌≡◌, ℕ, zero, suc, ◌+◌, ◌<◌, ◌≤◌, Bool, true, false, cond, not, List, [], map, length, Some, option_map, slice_get, IsTrue, ◌⊎◌, inl, inr, refl, ap, sym, ◌∙◌, subst, arith}
use Rattle.std.specs.List.{filter, flat_map, range_with_len}
use Rattle.std.specs.Option.{option_map_or}
use Rattle.std.proofs.lemmas.List.{length-map, length-append}
use Rattle.std.proofs.lemmas.List.FromFn.{length-map-range_with_len}
use Rattle.std.proofs.lemmas.Option.{slice_get-map}
use Rattle.rl_sets.specs.Sets.{In}
use Rattle.rl_sets.proofs.OrderLaws.{nat_order, eq_by_cmp-itself, eq_by_cmp-same}
use Rattle.rl_sets.proofs.SetLaws.{In-append_left, In-map, In-map_from}
use Rattle.rl_automata.specs.Auto.{on_part, is_start}
use Rattle.rl_automata.proofs.Congruence.{some_in}
use Rattle.rl_explore.proofs.NumberLaws.{get_below, get_In, get_exists}
use Rattle.rl_fsm.specs.declared.root.EntryFsm.{EntryFsm}
use Rattle.rl_fsm.specs.declared.edge.Edge.{Edge}
use Rattle.rl_fsm.specs.declared.state.State.{State}
use Rattle.rl_fsm.specs.Reads.{ascend}
use Rattle.rl_fsm.specs.Graphs.{state_at, edges_at, has_no_edge}
use Rattle.rl_fsm.specs.Roots.{states_in, graph_at, scans_at, ends_at, token_list_at, auto_at}
use Rattle.rl_fsm.specs.Sound as S
use Rattle.rl_fsm.proofs.PieceLaws.{All-In, All-from_In}
use Rattle.rl_model.specs.Parts.{kind_in}
use Rattle.rl_root.specs.Roots.{part_at}
use Rattle.rl_minimal.specs.declared.state.MinState.{MinState}
use Rattle.rl_minimal.specs.Minimal.{Minimal, kind_at, home_at}
use Rattle.rl_minimal.specs.Sound.{StaysIn, IsTarget, IsEdge, AreEdges, HasKind, HasHome, HasLists, IsState, IsError, IsEntry, IsMinimal}
use Rattle.rl_reach.specs.declared.place.Place.{Place}
use Rattle.rl_reach.specs.Places.{with_places, number_in}
use Rattle.rl_reach.specs.Walks.{IsSoundAt, AreSound, IsWalk, start_of, starts_of, target_of, targets_of, is_final, plain_first}
use Rattle.rl_reach.specs.States.{listed, actions_of, eof_stamps, home_of, min_edge, min_state, error_state, state_for}
use Rattle.rl_reach.proofs.PlaceLaws.{halves_from, halves_in, halves_length, number_there, number_at}
use Rattle.rl_reach.proofs.WalkLaws.{entry_from, reach_there, edges_sound, start_met, target_met, met_in}
use Rattle.rl_reach.proofs.FewLaws.{walk_few, entries_few}
use Rattle.rl_reach.proofs.StateLaws.{made_of, plain_stay, met_differ, places_apart, plain_number, final_number, shows}
use Rattle.rl_reach.proofs.KindLaws.{kind_most, kind_plain, kind_scanner, kind_first, kind_entry, kind_inner, kind_closed, kind_silent, first_final, inner_plain, start_is, token_plain, token_none, start_ends, target_inner, none_left}
use Rattle.rl_reach.proofs.TwinLaws.{reads_same}

same_le : (n : ℕ) → n ≤ n
same_le n = omega arith

module _ (entries : List EntryFsm) (sound : AreSound entries) (some : 1 ≤ length entries) (met : List Place) (w : IsWalk entries met met) where
  abbrev places : List Place
  places = plain_first entries met

  abbrev M : Minimal
  M = made_of entries met

  abbrev plain : List Place
  plain = filter (λ p. not (is_final entries p)) met

  places_length : length places ≡ length met
  places_length = halves_length (is_final entries) met

  states_length : length M.states ≡ suc (length met)
  states_length = ap suc (length-map places (state_for entries places) ∙ places_length)

  pub few_met : length met ≤ 2147483646
  few_met = let a = walk_few entries sound met met w in let b : states_in entries ≤ 2147483646 = sound.few in omega arith

  pub few_places : length places ≤ 2147483646
  few_places = subst (λ n. n ≤ 2147483646) (sym places_length) few_met

  pub few_plain : (n : ℕ) → n ≡ length (with_places [] plain) → n ≤ 2147483646
  few_plain n e =
      let a : n ≡ length plain = e ∙ ap length (plain_stay entries sound met w) in
      let b : length places ≡ length plain + length (filter (is_final entries) met) = length-append plain (filter (is_final entries) met) in
      let c : length places ≤ 2147483646 = few_places in
      omega arith

  -- ---- numbers

  numbered : (p : Place) → In p met → (0 < number_in places p) × (number_in places p < length M.states)
  numbered p h =
      let k = number_there places p (halves_in (is_final entries) met p h) in
      let b : k.0 < length places = get_below places k.0 p k.1 in
      let n : number_in places p ≡ suc k.0 = k.2 in
      let l : length places ≡ length met = places_length in
      let c : length M.states ≡ suc (length met) = states_length in
      (omega arith, omega arith)

  -- ---- kinds and homes

  abbrev at : ℕ → ℕ → Place
  at e i = record { entry = e; state = i }

  sound_at : (e i : ℕ) → In (at e i) met → IsSoundAt entries e
  sound_at e i h = let n = entry_from (length entries) e (w.reached (at e i) h).0 in sound.each e n.0 n.1

  kind_is : (e i : ℕ) → In (at e i) met → kind_at M.states (number_in places (at e i)) ≡ kind_in (part_at entries e) i
  kind_is e i h = shows entries sound met w (λ o. kind_in (part_at entries e) i) (λ o. option_map_or (λ (s : MinState). s.kind) o 0) e i (λ s. refl) (w.reached (at e i) h)

  home_is : (e i : ℕ) → In (at e i) met → home_at M.states (number_in places (at e i)) ≡ home_of entries places e
  home_is e i h = shows entries sound met w (λ o. home_of entries places e) (λ o. option_map_or (λ (s : MinState). s.home) o 0) e i (λ s. refl) (w.reached (at e i) h)

  -- ---- what is told of the kind of a state
  module _ (e i : ℕ) (h : In (at e i) met) where
    abbrev scanner : Bool
    scanner = scans_at entries e

    abbrev start : Bool
    start = is_start (auto_at entries e) i

    abbrev ends : Bool
    ends = ends_at entries e i

    abbrev closed : Bool
    closed = has_no_edge (graph_at entries e) i

    abbrev kind : ℕ
    kind = kind_in (part_at entries e) i

    abbrev begin : Place
    begin = start_of entries e

    begin_met : In begin met
    begin_met = let n = entry_from (length entries) e (w.reached (at e i) h).0 in start_met entries sound met w e n.0 n.1

    kind_right : HasKind M.first_final (number_in places (at e i)) kind
    kind_right = record {
      known = kind_most scanner start ends closed;
      start = λ z. final_number (is_final entries) met (met_differ entries sound met w) (at e i) h (first_final scanner start ends closed z);
      inner = λ l.
          let n : number_in places (at e i) ≤ length plain = plain_number (is_final entries) met (met_differ entries sound met w) (at e i) h (inner_plain scanner start ends closed l) in
          omega arith;
    }

    home_scanner : scanner ≡ true → home_of entries places e ≡ number_in places begin
    home_scanner q = ap (λ b. cond b (number_in places begin) 0) q

    begin_kind : scanner ≡ true → kind_at M.states (number_in places begin) ≡ 1
    begin_kind q =
        kind_is e begin.state begin_met ∙ ap (λ b. cond b (cond (is_start (auto_at entries e) begin.state) 1 (cond (ends_at entries e begin.state) (cond (has_no_edge (graph_at entries e) begin.state) 4 3) 2)) 0) q
        ∙ kind_first (is_start (auto_at entries e) begin.state) (ends_at entries e begin.state) (has_no_edge (graph_at entries e) begin.state) (eq_by_cmp-itself nat_order begin.state)

    home_right : HasHome M.states kind (home_of entries places e)
    home_right = record {
      plain = λ z. ap (λ b. cond b (number_in places begin) 0) (kind_plain scanner start ends closed z);
      there = λ l. subst (λ n. n < length M.states) (sym (home_scanner (kind_scanner scanner start ends closed l))) (numbered begin begin_met).1;
      start = λ l. let q = kind_scanner scanner start ends closed l in ap (kind_at M.states) (home_scanner q) ∙ begin_kind q;
      own = λ l. ap (home_at M.states) (home_scanner (kind_scanner scanner start ends closed l)) ∙ home_is e begin.state begin_met;
    }

    -- a state that is no match has no token list
    token_right : kind < 3 → token_list_at entries e i ≡ []
    token_right l = by (kind_silent scanner start ends closed l)
      where
        by : (scanner ≡ false) ⊎ ((scanner ≡ true) × (start ≡ true)) ⊎ (ends ≡ false) → token_list_at entries e i ≡ []
        by (inl q) = sym (token_plain entries e i) ∙ ap (λ b. cond b (token_list_at entries e i) []) q
        by (inr (inl q)) =
            let is : i ≡ begin.state = eq_by_cmp-same nat_order i begin.state q.1 in
            token_none entries e i (ap (ends_at entries e) is ∙ start_ends entries e (sound_at e i h) q.0)
        by (inr (inr q)) = token_none entries e i q

    -- where an edge leads is in the same entry, and no scanner's start
    stays_right : (x : Edge) → In x (edges_at (graph_at entries e) i) → In (at e x.target) met → StaysIn kind (home_of entries places e) (kind_at M.states (number_in places (at e x.target))) (home_at M.states (number_in places (at e x.target)))
    stays_right x j there = record {
      plain = λ z. kind_is e x.target there ∙ ap (λ b. cond b (cond (is_start (auto_at entries e) x.target) 1 (cond (ends_at entries e x.target) (cond (has_no_edge (graph_at entries e) x.target) 4 3) 2)) 0) (kind_plain scanner start ends closed z);
      inner = λ l.
          let q = kind_scanner scanner start ends closed l in
          let n = entry_from (length entries) e (w.reached (at e i) h).0 in
          let below = reach_there entries e (sound.each e n.0 n.1).machine i (w.reached (at e i) h).1 in
          let away : is_start (auto_at entries e) x.target ≡ false = start_is x.target begin.state ∙ target_inner entries e (sound_at e i h) q i x below j in
          subst (λ k. 2 ≤ k) (sym (kind_is e x.target there)) (kind_inner scanner (is_start (auto_at entries e) x.target) (ends_at entries e x.target) (has_no_edge (graph_at entries e) x.target) q away);
      same_home = λ l. home_is e x.target there;
    }

  -- ---- edges

  edge_there : (e i : ℕ) (s : State) (x : Edge) → state_at (graph_at entries e) i ≡ Some s → In x s.edges → In x (edges_at (graph_at entries e) i)
  edge_there e i s x is j = subst (λ o. In x (on_part [] (λ (s : State). s.edges) o)) (sym is) j

  target_right : (e i : ℕ) (s : State) (x : Edge) → In (at e i) met → state_at (graph_at entries e) i ≡ Some s → In x s.edges → IsTarget M.states (min_state entries places (at e i) s) (number_in places (at e x.target))
  target_right e i s x h is j =
      let inside = edge_there e i s x is j in
      let there = target_met entries sound met w (at e i) (at e x.target) h (In-map (target_of entries e) x (edges_at (graph_at entries e) i) inside) in
      let n = numbered (at e x.target) there in
      record {
        there = n.1;
        alive = n.0;
        stays = stays_right e i h x inside there;
      }

  edge_right : (e i : ℕ) (s : State) (x : Edge) (n : ℕ) → In (at e i) met → state_at (graph_at entries e) i ≡ Some s → In x s.edges → S.IsEdge n x → IsEdge M.states (min_state entries places (at e i) s) (min_edge places e x)
  edge_right e i s x n h is j r = record {
    target = target_right e i s x h is j;
    reads = record { truths = r.truths; asks = r.asks; keys = r.keys };
  }

  edges_right : (e i : ℕ) (s : State) (n : ℕ) → In (at e i) met → state_at (graph_at entries e) i ≡ Some s → S.AreEdges n s.edges → AreEdges M.states (min_state entries places (at e i) s)
  edges_right e i s n h is r = record {
    each = All-from_In (IsEdge M.states (min_state entries places (at e i) s)) (map (min_edge places e) s.edges) (λ y j.
        let x = In-map_from (min_edge places e) y s.edges j in
        subst (IsEdge M.states (min_state entries places (at e i) s)) x.2 (edge_right e i s x.0 n h is x.1 (All-In (S.IsEdge n) s.edges x.0 r.each x.1)));
    ascending = subst (λ rs. IsTrue (ascend rs)) (sym (reads_same places e s.edges)) r.ascending;
  }

  -- ---- states

  lists_right : (e i : ℕ) (s : State) → In (at e i) met → HasLists (min_state entries places (at e i) s)
  lists_right e i s h = record {
    eof = λ l. ap (λ b. cond b [] (actions_of (eof_stamps (ends_at entries e i) s))) (kind_scanner (scans_at entries e) (is_start (auto_at entries e) i) (ends_at entries e i) (has_no_edge (graph_at entries e) i) l);
    error = λ l. ap (λ b. cond b [] (actions_of s.marks.error)) (kind_scanner (scans_at entries e) (is_start (auto_at entries e) i) (ends_at entries e i) (has_no_edge (graph_at entries e) i) l);
    token = λ l. ap listed (token_right e i h l);
  }

  state_right : (j e i : ℕ) (s : State) → In (at e i) met → number_in places (at e i) ≡ j → state_at (graph_at entries e) i ≡ Some s → IsState M.states M.first_final j (min_state entries places (at e i) s)
  state_right j e i s h number is = record {
    kind = subst (λ n. HasKind M.first_final n (kind_in (part_at entries e) i)) number (kind_right e i h);
    home = home_right e i h;
    lists = lists_right e i s h;
    closed = λ z.
        let q = kind_closed (scans_at entries e) (is_start (auto_at entries e) i) (ends_at entries e i) (has_no_edge (graph_at entries e) i) z in
        ap (map (min_edge places e)) (ap (λ o. on_part [] (λ (s : State). s.edges) o) (sym is) ∙ none_left (edges_at (graph_at entries e) i) q);
    edges = edges_right e i s (length (graph_at entries e).states) h is (edges_sound (graph_at entries e) (sound_at e i h).machine i s is);
  }

  error_right : (j : ℕ) → IsState M.states M.first_final j error_state
  error_right j = record {
    kind = record { known = omega arith; start = λ z. absurd (omega arith); inner = λ l. absurd (omega arith) };
    home = record { plain = λ z. refl; there = λ l. absurd (omega arith); start = λ l. absurd (omega arith); own = λ l. absurd (omega arith) };
    lists = record { eof = λ l. refl; error = λ l. refl; token = λ l. refl };
    closed = λ z. refl;
    edges = record { each = All-from_In (IsEdge M.states error_state) [] (λ y j. absurd j); ascending = refl };
  }

  all_right : (j : ℕ) (t : MinState) → slice_get M.states j ≡ Some t → IsState M.states M.first_final j t
  all_right zero t q = subst (IsState M.states M.first_final 0) (some_in error_state t q) (error_right 0)
  all_right (suc k) t q =
      let l : length (map (state_for entries places) places) ≡ length places = length-map places (state_for entries places) in
      let below : k < length (map (state_for entries places) places) = get_below (map (state_for entries places) places) k t q in
      let p = get_exists places k (omega arith) in
      let inside : In p.0 met = halves_from (is_final entries) met p.0 (get_In places k p.0 p.1) in
      let b = w.reached p.0 inside in
      let s = get_exists (graph_at entries p.0.entry).states p.0.state (reach_there entries p.0.entry (sound_at p.0.entry p.0.state inside).machine p.0.state b.1) in
      let is : min_state entries places p.0 s.0 ≡ t = some_in (min_state entries places p.0 s.0) t (ap (λ o. Some (on_part error_state (min_state entries places p.0) o)) (sym s.1) ∙ ap (option_map (state_for entries places)) (sym p.1) ∙ sym (slice_get-map (state_for entries places) places k) ∙ q) in
      subst (IsState M.states M.first_final (suc k)) is (state_right (suc k) p.0.entry p.0.state s.0 inside (number_at places k p.0 (places_apart entries sound met w) p.1) s.1)

  entry_right : (n : ℕ) → In n M.entries → IsEntry M.states n
  entry_right n h =
      let p = In-map_from (number_in places) n (starts_of entries) h in
      let inside : In p.0 met = met_in entries sound met w p.0 (In-append_left p.0 (starts_of entries) (flat_map (targets_of entries) met) p.1) in
      let k = numbered p.0 inside in
      let q = In-map_from (start_of entries) p.0 (range_with_len 1 (length entries)) p.1 in
      let first : kind_at M.states (number_in places p.0) ≤ 1 = subst (λ r. kind_at M.states (number_in places r) ≤ 1) q.2 (begins q.0 (subst (λ r. In r met) (sym q.2) inside)) in
      subst (IsEntry M.states) p.2 (record { alive = k.0; there = k.1; kind = first })
    where
      begins : (e : ℕ) → In (start_of entries e) met → kind_at M.states (number_in places (start_of entries e)) ≤ 1
      begins e h =
          let i = (graph_at entries e).start in
          subst (λ n. n ≤ 1) (sym (kind_is e i h)) (kind_entry (scans_at entries e) (is_start (auto_at entries e) i) (ends_at entries e i) (has_no_edge (graph_at entries e) i) (eq_by_cmp-itself nat_order i))

  pub made_sound : IsMinimal M
  made_sound = record {
    counts =
        let one : 1 ≤ 1 = omega arith in
        let k = numbered (start_of entries 1) (start_met entries sound met w 1 one some) in
        let low : 0 < number_in places (start_of entries 1) = k.0 in
        let high : number_in places (start_of entries 1) < length M.states = k.1 in
        let count : length M.states ≡ suc (length met) = states_length in
        let few : length met ≤ 2147483646 = few_met in
        let e : length M.entries ≡ length entries = length-map (starts_of entries) (number_in places) ∙ length-map-range_with_len (start_of entries) 1 (length entries) in
        let f : length entries ≤ states_in entries = entries_few entries (length entries) (same_le (length entries)) (λ e h k. (sound.each e h k).machine) in
        let g : states_in entries ≤ 2147483646 = sound.few in
        let h : length places ≡ length plain + length (filter (is_final entries) met) = length-append plain (filter (is_final entries) met) in
        let l : length places ≡ length met = places_length in
        record { states = omega arith; few = omega arith; entries = omega arith; few_entries = omega arith; final = omega arith; last_final = omega arith };
    error = λ s q. subst IsError (some_in error_state s q) (record { kind = refl; from = refl; to = refl; eof = refl; error = refl; edges = refl });
    states = all_right;
    entries = All-from_In (IsEntry M.states) M.entries entry_right;
  }
