-- The machine of a walk's places looks up what the machine of all entries looks up.
use Rattle.std.proofs.Common.{◌≡◌, ℕ, zero, suc, ◌+◌, ◌<◌, ◌≤◌, Bool, true, false, cond, not, ◌&&◌, List, [], ◌∷◌, ◌++◌, map, length, Option, Some, None, option_map, unwrap_or, slice_get, nat_eq, nat_le, refl, ap, sym, ◌∙◌, subst, inl, inr, arith}
use Rattle.std.specs.List.{AllByRecursion, filter, range_with_len}
use Rattle.std.specs.Option.{option_map_or}
use Rattle.std.proofs.lemmas.Bool.{cases_lt}
use Rattle.std.proofs.lemmas.List.{map-id}
use Rattle.std.proofs.lemmas.Option.{slice_get-map, slice_get_past}
use Rattle.std.proofs.lemmas.List.FromFn.{length-range_with_len}
use borrow.Author.Tests.{leb-true, eqb-true}
use Rattle.rl_types.specs.declared.numbers.Key.{Key}
use Rattle.rl_types.specs.declared.numbers.Letter.{Letter}
use Rattle.rl_labels.specs.Labels.{stamps_of, once}
use Rattle.rl_labels.specs.Carries.{no_carry}
use Rattle.rl_automata.specs.declared.tree.Kind.TheVariants as K
use Rattle.rl_automata.specs.Auto.{on_part}
use Rattle.rl_automata.specs.Follows.{begun, went}
use Rattle.rl_fsm.specs.declared.root.EntryFsm.{EntryFsm}
use Rattle.rl_fsm.specs.declared.edge.Edge.{Edge}
use Rattle.rl_fsm.specs.declared.state.State.{State}
use Rattle.rl_fsm.specs.Reads.{takes, asks_at}
use Rattle.rl_fsm.specs.Graphs.{state_at, edge_for, reads_of, move_of, carry_out, marks_of}
use Rattle.rl_fsm.specs.Roots.{graph_at, scans_at, ends_at, token_list_at}
use Rattle.rl_run.specs.Machine.{Machine}
use Rattle.rl_run.specs.Twin.{Agrees, ListR, GoR, IsTwin}
use Rattle.rl_run.specs.Classes.{InClass}
use Rattle.rl_model.specs.Parts.{Context, letter_of, is_entry, kind_in, go_at}
use Rattle.rl_root.specs.Roots.{RootState, part_at, root_machine, IsBuilt}
use Rattle.rl_minimal.specs.declared.state.MinState.{MinState}
use Rattle.rl_minimal.specs.Minimal.{Minimal, numbers}
use Rattle.rl_minimal.specs.Minimal as L
use Rattle.rl_minimal.specs.Machine.{go_of, entry_at, min_machine}
use Rattle.rl_minimal.specs.Machine as N
use Rattle.rl_reach.specs.declared.place.Place.{Place}
use Rattle.rl_reach.specs.Places.{number_in}
use Rattle.rl_reach.specs.Walks.{AreSound, IsWalk, start_of, is_final, plain_first}
use Rattle.rl_reach.specs.States.{listed, actions_of, home_of, min_edge, min_state}
use Rattle.rl_reach.proofs.KindLaws.{token_plain}
use Rattle.rl_reach.proofs.WalkLaws.{entry_is, all_met}
use Rattle.rl_reach.proofs.StateLaws.{made_of, class_of, numbers_same, final_is, met_differ, state_is, shows, number_positive}

-- ---- edges

pub reads_same : (places : List Place) (e : ℕ) (es : List Edge) → map L.reads_of (map (min_edge places e) es) ≡ map reads_of es
reads_same places e [] = refl
reads_same places e (x ∷ es) = ap (λ w. reads_of x ∷ w) (reads_same places e es)

edges_same : (places : List Place) (e : ℕ) (l : Letter) (es : List Edge) → N.edge_for l (map (min_edge places e) es) ≡ option_map (min_edge places e) (edge_for l es)
edges_same places e l [] = refl
edges_same places e l (x ∷ es) =
    elim (takes l (reads_of x)) as (λ b. cond b (Some (min_edge places e x)) (N.edge_for l (map (min_edge places e) es)) ≡ option_map (min_edge places e) (cond b (Some x) (edge_for l es))) [
      | true ↦ refl
      | false ↦ edges_same places e l es
    ]

-- ---- numbers of entries

range_get : (a n k : ℕ) → k < n → slice_get (range_with_len a n) k ≡ Some (a + k)
range_get a zero k h = absurd (omega arith)
range_get a (suc n) zero h = ap Some (let e : a ≡ a + 0 = omega arith in e)
range_get a (suc n) (suc k) h = range_get (a + 1) n k (omega arith) ∙ ap Some (let e : (a + 1) + k ≡ a + suc k = omega arith in e)

not_entry : (n e : ℕ) → n < e → is_entry n e ≡ false
not_entry n e h = by (nat_le 1 e) (nat_le e n) (over n e h)
  where
    over : (n e : ℕ) → n < e → nat_le e n ≡ false
    over n e h = (elim (nat_le e n) as (λ b. nat_le e n ≡ b → b ≡ false) [
      | true ↦ λ q. let l : e ≤ n = leb-true e n q in absurd (omega arith)
      | false ↦ λ q. refl
    ]) refl

    by : (a b : Bool) → b ≡ false → (a && b) ≡ false
    by true b q = q
    by false b q = refl

not_failed : (n k : ℕ) → n ≡ suc k → nat_eq n 0 ≡ false
not_failed n k e = (elim (nat_eq n 0) as (λ b. nat_eq n 0 ≡ b → b ≡ false) [
  | true ↦ λ q. let z : n ≡ 0 = eqb-true n 0 q in absurd (omega arith)
  | false ↦ λ q. refl
]) refl

not_final_error : (n : ℕ) → nat_le (n + 1) 0 ≡ false
not_final_error n = (elim (nat_le (n + 1) 0) as (λ b. nat_le (n + 1) 0 ≡ b → b ≡ false) [
  | true ↦ λ q. let l : n + 1 ≤ 0 = leb-true (n + 1) 0 q in absurd (omega arith)
  | false ↦ λ q. refl
]) refl

numbers_plain : (b : Bool) (xs : List ℕ) → numbers (cond b [] (listed xs)) ≡ cond b [] xs
numbers_plain true xs = refl
numbers_plain false xs = numbers_same xs

-- ---- the twin

module _ (entries : List EntryFsm) (sound : AreSound entries) (met : List Place) (w : IsWalk entries met met) (context : Context) where
  abbrev places : List Place
  places = plain_first entries met

  abbrev M : Minimal
  M = made_of entries met

  abbrev class : RootState → ℕ
  class = class_of entries met

  abbrev root : Machine RootState
  root = root_machine entries context

  abbrev small : Machine ℕ
  small = min_machine M context

  abbrev At : RootState → ℕ → Type 0
  At = InClass root class (IsBuilt entries)

  all_agree : (xs : List ℕ) → AllByRecursion (Agrees root small (λ a. a) At) xs
  all_agree [] = tt
  all_agree (x ∷ xs) = ((λ n. refl, refl), all_agree xs)

  same_list : (xs ys : List ℕ) → ys ≡ xs → ListR root small (λ a. a) At xs ys
  same_list xs ys e = (e ∙ sym (map-id xs), all_agree xs)

  -- what is told of each state
  same : {X : Type 0} (f : RootState → X) (g : ℕ → X) → g 0 ≡ f None → ((e i : ℕ) → IsBuilt entries (Some (e, i)) → g (number_in places (record { entry = e; state = i })) ≡ f (Some (e, i)))
      → (q : RootState) (p : ℕ) → At q p → g p ≡ f q
  same f g z h None p r = ap g r.0 ∙ z
  same f g z h (Some (e, i)) p r = ap g r.0 ∙ h e i r.1

  same_lists : (f : RootState → List ℕ) (g : ℕ → List ℕ) → g 0 ≡ f None → ((e i : ℕ) → IsBuilt entries (Some (e, i)) → g (number_in places (record { entry = e; state = i })) ≡ f (Some (e, i)))
      → (q : RootState) (p : ℕ) → At q p → ListR root small (λ a. a) At (f q) (g p)
  same_lists f g z h q p r = same_list (f q) (g p) (same f g z h q p r)

  told : {X : Type 0} (F : ℕ → ℕ → Option State → X) (H : Option MinState → X) → ((e i : ℕ) (s : State) → H (Some (min_state entries places (record { entry = e; state = i }) s)) ≡ F e i (Some s)) → (e i : ℕ) → IsBuilt entries (Some (e, i))
      → H (slice_get M.states (number_in places (record { entry = e; state = i }))) ≡ F e i (state_at (graph_at entries e) i)
  told F H h e i b = shows entries sound met w (F e i) H e i (h e i) b

  gos : (e : ℕ) (i : ℕ) (l : Letter) (s : State) → state_at (graph_at entries e) i ≡ Some s → IsBuilt entries (Some (e, i)) → (o : Option Edge) → edge_for l s.edges ≡ o
      → GoR root small (λ a. a) At (option_map (go_at (λ e. ℕ) (part_at entries) e) (option_map move_of o)) (option_map go_of (option_map (min_edge places e) o))
  gos e i l s a b None q = tt
  gos e i l s a b (Some x) q = (
    (refl, (b.0, went b.1 l (move_of x) (ap (on_part None (λ (t : State). option_map move_of (edge_for l t.edges))) a ∙ ap (option_map move_of) q))),
    same_list (once x.actions) (numbers (actions_of x.actions)) (numbers_same (once x.actions)),
  )

  finds : (q : RootState) (p : ℕ) (key : Key) (hold : ℕ) → At q p → GoR root small (λ a. a) At (root.find q key hold) (small.find p key hold)
  finds None p key hold r = subst (λ n. GoR root small (λ a. a) At None (small.find n key hold)) (sym r.0) tt
  finds (Some (e, i)) p key hold r =
      let l : Letter = letter_of key hold in
      let x = state_is entries sound met w e i r.1 in
      subst (λ n. GoR root small (λ a. a) At (root.find (Some (e, i)) key hold) (small.find n key hold)) (sym r.0)
      (subst (λ o. GoR root small (λ a. a) At (option_map (go_at (λ e. ℕ) (part_at entries) e) (on_part None (λ (t : State). option_map move_of (edge_for l t.edges)) o)) (small.find (number_in places (record { entry = e; state = i })) key hold)) (sym x.1)
      (subst (λ o. GoR root small (λ a. a) At (option_map (go_at (λ e. ℕ) (part_at entries) e) (option_map move_of (edge_for l x.0.edges))) (option_map go_of (N.edge_for l (option_map_or (λ (t : MinState). t.edges) o [])))) (sym x.2)
      (subst (λ o. GoR root small (λ a. a) At (option_map (go_at (λ e. ℕ) (part_at entries) e) (option_map move_of (edge_for l x.0.edges))) (option_map go_of o)) (sym (edges_same places e l x.0.edges))
      (gos e i l x.0 x.1 r.1 (edge_for l x.0.edges) refl))))

  starts : (e : ℕ) → At (root.entry e) (small.entry e)
  starts zero = (refl, tt)
  starts (suc k) = elim (cases_lt k (length entries)) [
    | inl l ↦
        let low : 1 ≤ suc k = omega arith in
        let high : suc k ≤ length entries = omega arith in
        let is = entry_is (length entries) (suc k) low high in
        let one : 1 + k ≡ suc k = omega arith in
        subst (λ b. At (cond b (Some (suc k, (graph_at entries (suc k)).start)) None) (small.entry (suc k))) (sym is) (
          ap (λ o. unwrap_or o 0) (slice_get-map (number_in places) (map (start_of entries) (range_with_len 1 (length entries))) k ∙ ap (option_map (number_in places)) (slice_get-map (start_of entries) (range_with_len 1 (length entries)) k
              ∙ ap (option_map (start_of entries)) (range_get 1 (length entries) k l ∙ ap Some one))),
          (is, begun),
        )
    | inr g ↦
        let no = not_entry (length entries) (suc k) (omega arith) in
        let n : length (range_with_len 1 (length entries)) ≡ length entries = length-range_with_len 1 (length entries) in
        let past : length (range_with_len 1 (length entries)) ≤ k = omega arith in
        subst (λ b. At (cond b (Some (suc k, (graph_at entries (suc k)).start)) None) (small.entry (suc k))) (sym no) (
          ap (λ o. unwrap_or o 0) (slice_get-map (number_in places) (map (start_of entries) (range_with_len 1 (length entries))) k ∙ ap (option_map (number_in places)) (slice_get-map (start_of entries) (range_with_len 1 (length entries)) k
              ∙ ap (option_map (start_of entries)) (slice_get_past (range_with_len 1 (length entries)) k past))),
          tt,
        )
  ]

  pub made_twin : IsTwin root small (λ a. a) At
  made_twin = record {
    width = refl;
    key_of = λ character. refl;
    asked = λ q p key r. same (λ q. root.asked q key) (λ p. small.asked p key) refl
        (told (λ e i. on_part 0 (λ (s : State). asks_at key.0 (map reads_of s.edges))) (λ o. asks_at key.0 (map L.reads_of (option_map_or (λ (s : MinState). s.edges) o []))) (λ e i s. ap (asks_at key.0) (reads_same places e s.edges))) q p r;
    find = λ q p key hold r. finds q p key hold r;
    from = same_lists root.from small.from refl
        (told (λ e i o. once (on_part [] (λ (s : State). marks_of K.From s.marks) o)) (λ o. option_map_or (λ (s : MinState). numbers s.from) o []) (λ e i s. numbers_same (once s.marks.from)));
    to = same_lists root.to small.to refl
        (told (λ e i o. once (on_part [] (λ (s : State). marks_of K.To s.marks) o)) (λ o. option_map_or (λ (s : MinState). numbers s.to) o []) (λ e i s. numbers_same (once s.marks.to)));
    error = same_lists root.error small.error refl
        (told (λ e i o. cond (scans_at entries e) [] (once (on_part [] (λ (s : State). marks_of K.Error s.marks) o))) (λ o. option_map_or (λ (s : MinState). numbers s.error) o []) (λ e i s. numbers_plain (scans_at entries e) (once s.marks.error)));
    eof = same_lists root.eof small.eof refl
        (told (λ e i o. cond (scans_at entries e) [] (once (stamps_of (on_part [] (λ (s : State). marks_of K.Eof s.marks) o
        ++ cond (ends_at entries e i) (on_part no_carry (λ (s : State). carry_out s.out) o).actions (on_part [] (λ (s : State). marks_of K.Error s.marks) o)))))
        (λ o. option_map_or (λ (s : MinState). numbers s.eof) o []) (λ e i s. numbers_plain (scans_at entries e) (once (stamps_of (s.marks.eof ++ cond (ends_at entries e i) s.out.actions s.marks.error)))));
    token = same_lists root.token small.token refl (told (λ e i o. cond (scans_at entries e) (token_list_at entries e i) []) (λ o. option_map_or (λ (s : MinState). numbers s.token) o [])
        (λ e i s. numbers_same (token_list_at entries e i) ∙ sym (token_plain entries e i)));
    kind = same root.kind small.kind refl (told (λ e i o. kind_in (part_at entries e) i) (λ o. option_map_or (λ (s : MinState). s.kind) o 0) (λ e i s. refl));
    final = same root.final small.final (not_final_error (length (filter (λ p. not (is_final entries p)) met)))
        (λ e i b. final_is (is_final entries) met (met_differ entries sound met w) (record { entry = e; state = i }) (all_met entries sound met w e i b));
    home = λ q p r. homes q p r;
    failed = (refl, tt);
    is_failed = same root.is_failed small.is_failed refl (λ e i b. let k = number_positive entries sound met w e i b in not_failed (number_in places (record { entry = e; state = i })) k.0 k.1);
    condition_name = λ c. refl;
    entry_name = λ e. refl;
    entry = starts;
  }
    where
      homes : (q : RootState) (p : ℕ) → At q p → At (root.home q) (small.home p)
      homes None p r = (ap small.home r.0, tt)
      homes (Some (e, i)) p r = subst (At (root.home (Some (e, i)))) (sym (ap small.home r.0 ∙ told (λ e i o. home_of entries places e) (λ o. option_map_or (λ (s : MinState). s.home) o 0) (λ e i s. refl) e i r.1)) (by (scans_at entries e))
        where
          by : (b : Bool) → At (cond b (Some (e, (graph_at entries e).start)) None) (cond b (number_in places (start_of entries e)) 0)
          by true = (refl, (r.1.0, begun))
          by false = (refl, tt)
