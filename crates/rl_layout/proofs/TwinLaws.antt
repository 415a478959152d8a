-- The arrays of a machine run as it does.
use Rattle.std.proofs.Common.{◌≡◌, ℕ, ◌+◌, ◌-◌, true, false, nat_eq, nat_le, ℤ, pos, List, [], map, drop, Option, Some, None, refl, sym, ap, ◌∙◌, subst, not}
use Rattle.std.specs.Prelude.{slice_get, position, option_and_then, unwrap_or}
use Rattle.std.specs.List.{AllByRecursion, flat_map, filter}
use Rattle.std.specs.Option.{option_map, option_map_or}
use Rattle.std.proofs.lemmas.Option.{slice_get-map}
use Rattle.std.proofs.lemmas.List.Elements.{recursion_from_All, All-take, All-drop}
use Rattle.rl_types.specs.declared.numbers.ActionId.{ActionId}
use Rattle.rl_types.specs.declared.numbers.Key.{Key}
use Rattle.rl_types.specs.Alphabet.{width_of, key_of}
use Rattle.rl_fsm.specs.Reads.{asks_at}
use Rattle.rl_run.specs.Machine.{Go, Machine}
use Rattle.rl_run.specs.Twin.{Agrees, ListR, GoR, IsTwin}
use Rattle.rl_arrays.specs.declared.arrays.Arrays.{Arrays}
use Rattle.rl_arrays.specs.Words.{natural, number_at}
use Rattle.rl_arrays.specs.Lists.{members}
use Rattle.rl_arrays.specs.Statements.{statement}
use Rattle.rl_arrays.specs.TableMachine.{machine, name_at, asked_bits, entry_number, step_of, entry_of, asked, cell_within, cell_used}
use Rattle.rl_arrays.specs.TableMachine as tables
use Rattle.rl_model.specs.declared.spec.ActionDef.{ActionDef}
use Rattle.rl_model.specs.declared.spec.Spec.{Spec}
use Rattle.rl_model.specs.Specification.{specification_of, action_of, action_name_at}
use Rattle.rl_model.specs.Specification as spec_statements
use Rattle.rl_model.specs.Parts.{letter_of}
use Rattle.rl_model.specs.Trees.{context_of}
use Rattle.rl_minimal.specs.declared.state.MinEdge.{MinEdge}
use Rattle.rl_minimal.specs.declared.state.MinState.{MinState}
use Rattle.rl_minimal.specs.Minimal.{Minimal, reads_of, numbers, at_state}
use Rattle.rl_minimal.specs.Machine.{edge_for, go_of, edges_at, min_machine}
use Rattle.rl_minimal.specs.Sound.{IsMinimal, IsEdge, AreReads}
use Rattle.rl_layout.specs.declared.runs.Run.{Run}
use Rattle.rl_layout.specs.Runs.{edges_of, runs_of, is_single}
use Rattle.rl_layout.specs.Cells.{ordered_of, asks_of, edge_at, steps_of}
use Rattle.rl_layout.specs.Books.{list_of, uses_of, lists_of, place_in, order_of, number_in}
use Rattle.rl_layout.specs.SpecArrays.{name_of}
use Rattle.rl_layout.specs.Layout.{arrays_laid, arrays_of}
use Rattle.rl_layout.proofs.ListLaws.{all_at, all_more, all_append, found_all, next_get, to_filter}
use Rattle.rl_layout.proofs.BitLaws.{entry_within}
use Rattle.rl_layout.proofs.EdgeLaws.{Outside, Chain, chain_from, asks_none, edge_none}
use Rattle.rl_layout.proofs.GroupLaws.{held, IsRight, AreRight}
use Rattle.rl_layout.proofs.MergeLaws.{runs_right, runs_cover}
use Rattle.rl_layout.proofs.FoundLaws.{Finds, held_halves}
use Rattle.rl_layout.proofs.BookLaws.{listed, lists_listed, steps_listed, list_shown, has_number, actions_numbered, numbered_place}
use Rattle.rl_layout.proofs.SpecLaws.{number_is, alphabet_is, action_named, condition_named, entry_named, entry_state, IsPlain, by_number, statements_told, all_plain}
use Rattle.rl_layout.proofs.StepLaws.{no_state, found, asked_there, entry_there, target_there, list_there, step_there, number_none, MayBeStep, go_laid, step_is}

module _ (spec : Spec) (m : Minimal) (sound : IsMinimal m) (plain : AllByRecursion (λ (y : ActionDef). AllByRecursion IsPlain y.statements) spec.actions) where
  abbrev lists : List (List ActionId)
  lists = lists_of m.states

  abbrev order : List ℕ
  order = order_of lists

  abbrev a : Arrays
  a = arrays_laid spec lists order m

  abbrev before : Machine ℕ
  before = min_machine m (context_of (specification_of spec))

  abbrev shown : Machine ℕ
  shown = machine a

  abbrev renamed : ℕ → ℕ
  renamed = number_in order

  abbrev Same : ℕ → ℕ → Type 0
  Same q p = p ≡ q

  -- ---- actions

  agrees : (x : ℕ) → has_number order x ≡ true → Agrees before shown renamed Same x
  unfolding machine
  agrees x h = (statements, ap (name_at a.action_names) number ∙ named)
    where
      place : (i : ℕ) × (position (nat_eq x) order ≡ Some i) × (slice_get order i ≡ Some x)
      place = numbered_place order x h

      number : renamed x ≡ place.0 + 1
      number = ap (λ o. option_map_or (λ i. i + 1) o 0) place.1

      statements : (n : ℕ) → statement a (renamed x) n ≡ spec_statements.statement_at (map action_of spec.actions) x n
      statements n = ap (λ w. statement a w n) number ∙ by_number spec.actions order a refl refl refl refl refl refl place.0 x n place.2 (all_plain spec.actions plain x) ∙ statements_told spec.actions x n

      named : name_at a.action_names (place.0 + 1) ≡ action_name_at (map action_of spec.actions) x
      named =
          ap (λ o. unwrap_or o []) (next_get [] (map (name_of spec.actions) order) place.0 ∙ slice_get-map (name_of spec.actions) order place.0 ∙ ap (option_map (name_of spec.actions)) place.2)
          ∙ action_named spec.actions x

  -- ---- lists

  list_twin : (list : List ActionId) → listed lists list ≡ true → ListR before shown renamed Same (numbers list) (members a.actions (place_in lists list))
  list_twin list h = (list_shown order lists list h, all_more (λ x. has_number order x ≡ true) (Agrees before shown renamed Same) (numbers list) agrees (actions_numbered lists list h))

  own_list : (f : MinState → List ActionId) → AllByRecursion (λ s. listed lists (f s) ≡ true) m.states → (q : ℕ) → ListR before shown renamed Same (at_state [] (λ s. numbers (f s)) m.states q) (members a.actions (number_at (map (λ s. pos (place_in lists (f s))) m.states) q))
  own_list f all q = by (slice_get m.states q) refl
    where
      to : ℕ → Type 0
      to n = ListR before shown renamed Same (at_state [] (λ s. numbers (f s)) m.states q) (members a.actions n)

      by : (o : Option MinState) → slice_get m.states q ≡ o → to (number_at (map (λ s. pos (place_in lists (f s))) m.states) q)
      by None e = subst to (sym (number_none (map (λ s. pos (place_in lists (f s))) m.states) q (slice_get-map (λ s. pos (place_in lists (f s))) m.states q ∙ ap (option_map (λ s. pos (place_in lists (f s)))) e)))
          (subst (λ xs. ListR before shown renamed Same xs (members a.actions 0)) (sym (ap (λ o. option_map_or (λ s. numbers (f s)) o []) e)) (refl, tt))
      by (Some s) e = subst to (sym (number_is (map (λ s. pos (place_in lists (f s))) m.states) q (pos (place_in lists (f s))) (slice_get-map (λ s. pos (place_in lists (f s))) m.states q ∙ ap (option_map (λ s. pos (place_in lists (f s)))) e)))
          (subst (λ xs. ListR before shown renamed Same xs (members a.actions (place_in lists (f s)))) (sym (ap (λ o. option_map_or (λ s. numbers (f s)) o []) e)) (list_twin (f s) (all_at (λ s. listed lists (f s) ≡ true) m.states q s all e)))

  own_number : (f : MinState → ℕ) (q : ℕ) → number_at (map (λ s. pos (f s)) m.states) q ≡ at_state 0 f m.states q
  own_number f q = ap (λ o. option_map_or natural o 0) (slice_get-map (λ s. pos (f s)) m.states q) ∙ by (slice_get m.states q)
    where
      by : (o : Option MinState) → option_map_or natural (option_map (λ s. pos (f s)) o) 0 ≡ option_map_or f o 0
      by None = refl
      by (Some s) = refl

  uses : AllByRecursion (λ s. AllByRecursion (λ list. listed lists list ≡ true) (uses_of s)) m.states
  uses = lists_listed m.states

  from_listed : AllByRecursion (λ s. listed lists s.from ≡ true) m.states
  from_listed = all_more (λ s. AllByRecursion (λ list. listed lists list ≡ true) (uses_of s)) (λ s. listed lists s.from ≡ true) m.states (λ s u. u.0) uses

  to_listed : AllByRecursion (λ s. listed lists s.to ≡ true) m.states
  to_listed = all_more (λ s. AllByRecursion (λ list. listed lists list ≡ true) (uses_of s)) (λ s. listed lists s.to ≡ true) m.states (λ s u. u.1.0) uses

  eof_listed : AllByRecursion (λ s. listed lists s.eof ≡ true) m.states
  eof_listed = all_more (λ s. AllByRecursion (λ list. listed lists list ≡ true) (uses_of s)) (λ s. listed lists s.eof ≡ true) m.states (λ s u. u.1.1.0) uses

  error_listed : AllByRecursion (λ s. listed lists s.error ≡ true) m.states
  error_listed = all_more (λ s. AllByRecursion (λ list. listed lists list ≡ true) (uses_of s)) (λ s. listed lists s.error ≡ true) m.states (λ s u. u.1.1.1.0) uses

  token_listed : AllByRecursion (λ s. listed lists s.token ≡ true) m.states
  token_listed = all_more (λ s. AllByRecursion (λ list. listed lists list ≡ true) (uses_of s)) (λ s. listed lists s.token ≡ true) m.states (λ s u. u.1.1.1.1.0) uses

  -- ---- steps

  module _ (q : ℕ) (s : MinState) (there : slice_get m.states q ≡ Some s) where
    edges_are : edges_at m q ≡ s.edges
    edges_are = ap (λ o. option_map_or (λ s. s.edges) o []) there

    each : AllByRecursion (IsEdge m.states s) s.edges
    each = recursion_from_All (IsEdge m.states s) s.edges (sound.states q s there).edges.each

    reads : AllByRecursion AreReads s.edges
    reads = all_more (IsEdge m.states s) AreReads s.edges (λ e k. k.reads) each

    chain : Chain s.edges
    chain = chain_from s.edges (sound.states q s there).edges.ascending

    all_right : AreRight s.edges (ordered_of s)
    all_right =
        let right = runs_right s.edges reads chain in
        all_append (IsRight s.edges) (filter is_single (runs_of s.edges)) (filter (λ r. not (is_single r)) (runs_of s.edges))
        (to_filter is_single (IsRight s.edges) (runs_of s.edges) (all_more (IsRight s.edges) (λ r. is_single r ≡ true → IsRight s.edges r) (runs_of s.edges) (λ r k _. k) right))
        (to_filter (λ r. not (is_single r)) (IsRight s.edges) (runs_of s.edges) (all_more (IsRight s.edges) (λ r. not (is_single r) ≡ true → IsRight s.edges r) (runs_of s.edges) (λ r k _. k) right))

    outside : (key : ℤ) → held key (ordered_of s) ≡ false → Outside key s.edges
    outside key h = runs_cover s.edges key reads chain (held_halves is_single key (runs_of s.edges) h)

    asked_at : (key : ℤ) → asked a q key ≡ asks_at key (map reads_of s.edges)
    asked_at key = by (cell_within a q key) refl (found spec lists order m q s there key)
      where
        by : (o : Option ℕ) → cell_within a q key ≡ o → Finds key (ordered_of s) o → asked a q key ≡ asks_at key (map reads_of s.edges)
        by None e f = ap (λ o. option_map_or (λ c. number_at a.cell_asks c) (option_map (λ c. cell_used a (number_at a.cell_offsets q + c)) o) 0) e ∙ sym (asks_none key s.edges (outside key f))
        by (Some i) e f = asked_there spec lists order m q s there i f.0 f.1 key e ∙ sym ((all_at (IsRight s.edges) (ordered_of s) i f.0 all_right f.1).asks key f.2)

    -- the edge that is found is a step
    is_step : (n : ℕ) (r : Run) (j : ℕ) (o : Option MinEdge) → edge_at (asks_of s.edges r) j (edges_of s.edges r) ≡ o → slice_get (flat_map steps_of m.states) n ≡ Some o → MayBeStep spec lists order m o
    is_step n r j None e h = tt
    is_step n r j (Some x) e h = record {
      alive = (found_all (IsEdge m.states s) (λ e. nat_eq (entry_number (asked_bits (asks_of s.edges r)) e.truths.0) j) (edges_of s.edges r) x part e).target.alive;
      list = all_at (λ o. listed lists (list_of o) ≡ true) (flat_map steps_of m.states) n (Some x) (steps_listed m.states) h;
    }
      where
        part : AllByRecursion (IsEdge m.states s) (edges_of s.edges r)
        part = recursion_from_All (IsEdge m.states s) (edges_of s.edges r) (All-take (IsEdge m.states s) (r.end - r.first) (drop r.first s.edges) (All-drop (IsEdge m.states s) r.first s.edges (sound.states q s there).edges.each))

    go_twin : (o : Option MinEdge) → MayBeStep spec lists order m o → GoR before shown renamed Same (option_map go_of o) (option_map (go_laid spec lists order m) o)
    go_twin None p = tt
    go_twin (Some x) p = (refl, (refl, all_more (λ x. has_number order x ≡ true) (Agrees before shown renamed Same) (numbers x.list) agrees (actions_numbered lists x.list p.list)))

    find_twin : (key : Key) (hold : ℕ) → GoR before shown renamed Same (option_map go_of (edge_for (letter_of key hold) s.edges)) (tables.find a q key.0 hold)
    find_twin key hold = by (cell_within a q key.0) refl (found spec lists order m q s there key.0)
      where
        by : (o : Option ℕ) → cell_within a q key.0 ≡ o → Finds key.0 (ordered_of s) o → GoR before shown renamed Same (option_map go_of (edge_for (letter_of key hold) s.edges)) (tables.find a q key.0 hold)
        by None e f =
            let here : tables.find a q key.0 hold ≡ None =
            ap (λ o. option_and_then (step_of a) (option_map (λ c. number_at a.cell_entries c + entry_number (asked_bits (number_at a.cell_asks c)) hold) (option_map (λ c. cell_used a (number_at a.cell_offsets q + c)) o))) e in
            let none : edge_for (letter_of key hold) s.edges ≡ None = edge_none (letter_of key hold) s.edges (outside key.0 f) in
            subst (λ w. GoR before shown renamed Same (option_map go_of (edge_for (letter_of key hold) s.edges)) w) (sym here) (subst (λ w. GoR before shown renamed Same (option_map go_of w) None) (sym none) tt)
        by (Some i) e f =
            let right = all_at (IsRight s.edges) (ordered_of s) i f.0 all_right f.1 in
            let j = entry_number (asked_bits (asks_of s.edges f.0)) hold in
            let o = edge_at (asks_of s.edges f.0) j (edges_of s.edges f.0) in
            let less = entry_within (asks_of s.edges f.0) hold right.small in
            let at = step_there spec lists order m q s there i f.0 f.1 j less in
            let step = is_step _ f.0 j o refl at in
            let here : tables.find a q key.0 hold ≡ option_map (go_laid spec lists order m) o =
            ap (option_and_then (step_of a)) (entry_there spec lists order m q s there i f.0 f.1 key.0 hold e)
            ∙ step_is spec lists order m _ o (target_there spec lists order m q s there i f.0 f.1 j less) (list_there spec lists order m q s there i f.0 f.1 j less) step in
            subst (λ w. GoR before shown renamed Same (option_map go_of (edge_for (letter_of key hold) s.edges)) w) (sym here)
            (subst (λ w. GoR before shown renamed Same w (option_map (go_laid spec lists order m) o)) (sym (right.step (letter_of key hold) f.2)) (go_twin o step))

    -- the actions of the edge that is found have numbers
    edge_numbered : (key : Key) (hold : ℕ) (x : MinEdge) → edge_for (letter_of key hold) s.edges ≡ Some x → AllByRecursion (λ n. has_number order n ≡ true) (numbers x.list)
    edge_numbered key hold x e = by (cell_within a q key.0) (found spec lists order m q s there key.0)
      where
        of_step : (o : Option MinEdge) → listed lists (list_of o) ≡ true → option_map go_of o ≡ Some (go_of x) → AllByRecursion (λ n. has_number order n ≡ true) (numbers x.list)
        of_step None l h = absurd cc
        of_step (Some y) l h =
            let same : go_of y ≡ go_of x = cc in
            subst (AllByRecursion (λ n. has_number order n ≡ true)) (ap (λ (g : Go ℕ). g.list) same) (actions_numbered lists y.list l)

        by : (o : Option ℕ) → Finds key.0 (ordered_of s) o → AllByRecursion (λ n. has_number order n ≡ true) (numbers x.list)
        by None f = let none : edge_for (letter_of key hold) s.edges ≡ None = edge_none (letter_of key hold) s.edges (outside key.0 f) in absurd cc
        by (Some i) f =
            let right = all_at (IsRight s.edges) (ordered_of s) i f.0 all_right f.1 in
            let j = entry_number (asked_bits (asks_of s.edges f.0)) hold in
            let o = edge_at (asks_of s.edges f.0) j (edges_of s.edges f.0) in
            let at = step_there spec lists order m q s there i f.0 f.1 j (entry_within (asks_of s.edges f.0) hold right.small) in
            of_step o (all_at (λ o. listed lists (list_of o) ≡ true) (flat_map steps_of m.states) _ o (steps_listed m.states) at)
            (sym (right.step (letter_of key hold) f.2) ∙ ap (option_map go_of) e)

  pub found_numbered : (q : ℕ) (key : Key) (hold : ℕ) (x : MinEdge) → edge_for (letter_of key hold) (edges_at m q) ≡ Some x → AllByRecursion (λ n. has_number order n ≡ true) (numbers x.list)
  found_numbered q key hold x e = by (slice_get m.states q) refl e
    where
      by : (o : Option MinState) → slice_get m.states q ≡ o → edge_for (letter_of key hold) (option_map_or (λ (s : MinState). s.edges) o []) ≡ Some x
          → AllByRecursion (λ n. has_number order n ≡ true) (numbers x.list)
      by None h f = absurd cc
      by (Some s) h f = edge_numbered q s h key hold x f

  asked_twin : (q : ℕ) (key : ℤ) → asked a q key ≡ asks_at key (map reads_of (edges_at m q))
  asked_twin q key = by (slice_get m.states q) refl
    where
      by : (o : Option MinState) → slice_get m.states q ≡ o → asked a q key ≡ asks_at key (map reads_of (edges_at m q))
      by None e =
          ap (λ o. option_map_or (λ c. number_at a.cell_asks c) (option_map (λ c. cell_used a (number_at a.cell_offsets q + c)) o) 0) (no_state spec lists order m q key e)
          ∙ sym (ap (λ o. asks_at key (map reads_of (option_map_or (λ (s : MinState). s.edges) o []))) e)
      by (Some s) e = asked_at q s e key ∙ sym (ap (λ w. asks_at key (map reads_of w)) (edges_are q s e))

  find_at : (q : ℕ) (key : Key) (hold : ℕ) → GoR before shown renamed Same (option_map go_of (edge_for (letter_of key hold) (edges_at m q))) (tables.find a q key.0 hold)
  find_at q key hold = by (slice_get m.states q) refl
    where
      by : (o : Option MinState) → slice_get m.states q ≡ o → GoR before shown renamed Same (option_map go_of (edge_for (letter_of key hold) (edges_at m q))) (tables.find a q key.0 hold)
      by None e =
          let here : tables.find a q key.0 hold ≡ None =
          ap (λ o. option_and_then (step_of a) (option_map (λ c. number_at a.cell_entries c + entry_number (asked_bits (number_at a.cell_asks c)) hold) (option_map (λ c. cell_used a (number_at a.cell_offsets q + c)) o))) (no_state spec lists order m q key.0 e) in
          subst (λ w. GoR before shown renamed Same (option_map go_of (edge_for (letter_of key hold) (edges_at m q))) w) (sym here)
          (subst (λ w. GoR before shown renamed Same (option_map go_of (edge_for (letter_of key hold) w)) None) (sym (ap (λ o. option_map_or (λ (s : MinState). s.edges) o []) e)) tt)
      by (Some s) e = subst (λ w. GoR before shown renamed Same (option_map go_of (edge_for (letter_of key hold) w)) (tables.find a q key.0 hold)) (sym (edges_are q s e)) (find_twin q s e key hold)

  pub laid_twin : IsTwin before shown renamed Same
  unfolding machine
  laid_twin = record {
    width = ap width_of (alphabet_is spec.alphabet);
    key_of = λ character. ap (λ w. key_of w character) (alphabet_is spec.alphabet);
    asked = λ q p key e. ap (λ n. asked a n key.0) e ∙ asked_twin q key.0;
    find = λ q p key hold e. subst (λ n. GoR before shown renamed Same (before.find q key hold) (tables.find a n key.0 hold)) (sym e) (find_at q key hold);
    from = λ q p e. subst (λ n. ListR before shown renamed Same (before.from q) (members a.actions (number_at a.from_lists n))) (sym e) (own_list (λ s. s.from) from_listed q);
    to = λ q p e. subst (λ n. ListR before shown renamed Same (before.to q) (members a.actions (number_at a.to_lists n))) (sym e) (own_list (λ s. s.to) to_listed q);
    error = λ q p e. subst (λ n. ListR before shown renamed Same (before.error q) (members a.actions (number_at a.error_lists n))) (sym e) (own_list (λ s. s.error) error_listed q);
    eof = λ q p e. subst (λ n. ListR before shown renamed Same (before.eof q) (members a.actions (number_at a.eof_lists n))) (sym e) (own_list (λ s. s.eof) eof_listed q);
    token = λ q p e. subst (λ n. ListR before shown renamed Same (before.token q) (members a.actions (number_at a.accept_lists n))) (sym e) (own_list (λ s. s.token) token_listed q);
    kind = λ q p e. ap (number_at a.state_kinds) e ∙ own_number (λ s. s.kind) q;
    final = λ q p e. ap (λ n. nat_le m.first_final n) e;
    home = λ q p e. ap (number_at a.homes) e ∙ own_number (λ s. s.home) q;
    failed = refl;
    is_failed = λ q p e. ap (λ n. nat_eq n 0) e;
    condition_name = λ c. condition_named spec.actions spec.conds c;
    entry_name = λ e. entry_named spec.entries e;
    entry = λ e. entry_state m.entries e;
  }

  pub arrays_twin : IsTwin before (machine (arrays_of spec m)) renamed Same
  unfolding arrays_of
  arrays_twin = laid_twin
