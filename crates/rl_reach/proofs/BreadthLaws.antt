-- The numbers of a machine are those of a breadth-first walk by letters.
use Rattle.std.proofs.Common.{◌≡◌, ℕ, zero, suc, ◌+◌, ◌<◌, ◌≤◌, Bool, true, false, cond, not, List, [], ◌∷◌, ◌++◌, ◌⊎◌, map, length, Option, Some, None, option_map, unwrap_or, slice_get, refl, ap, sym, ◌∙◌, subst, inl, inr, arith}
use Rattle.std.specs.List.{filter, filter_map, flat_map, range_with_len}
use Rattle.std.specs.Option.{option_map_or}
use Rattle.std.specs.Prelude.{slice_index_or}
use Rattle.std.proofs.lemmas.Bool.{cases_lt}
use Rattle.rl_types.specs.declared.numbers.Key.{Key}
use Rattle.rl_types.specs.declared.numbers.Letter.{Letter}
use Rattle.rl_types.specs.declared.alphabet.Alphabet.{Alphabet}
use Rattle.rl_sets.specs.Sets.{In}
use Rattle.rl_sets.proofs.SetLaws.{In-filter, In-append_left, In-append_right}
use Rattle.rl_automata.specs.declared.moves.Move.{Move}
use Rattle.rl_automata.proofs.Congruence.{reach_all}
use Rattle.rl_explore.proofs.NumberLaws.{get_In, get_exists}
use Rattle.rl_fsm.specs.declared.root.EntryFsm.{EntryFsm}
use Rattle.rl_fsm.specs.Roots.{graph_at, auto_at}
use Rattle.rl_fsm.proofs.PieceLaws.{All-In}
use Rattle.rl_run.specs.Machine.{Go, Machine}
use Rattle.rl_run.specs.Twin.{IsTwin, GoR}
use Rattle.rl_run.specs.Classes.{InClass, AreClasses}
use Rattle.rl_run.specs.Numbers.{letters_of, firsts, Leads, IsReached, IsKnown, IsBreadthFirst, targets}
use Rattle.rl_model.specs.Parts.{Context, letter_of, start_at, go_at}
use Rattle.rl_root.specs.Roots.{RootState, part_at, root_machine, IsBuilt}
use Rattle.rl_minimal.specs.declared.state.MinState.{MinState}
use Rattle.rl_minimal.specs.declared.state.MinEdge.{MinEdge}
use Rattle.rl_minimal.specs.Minimal.{Minimal}
use Rattle.rl_minimal.specs.Machine.{edge_for, edges_at, go_of, min_machine}
use Rattle.rl_minimal.specs.Sound.{IsEdge, IsEntry, IsMinimal}
use Rattle.rl_reach.specs.Canonical.{targets_at, is_final, IsMachineOf, IsLeast}
use Rattle.rl_reach.specs.Laws.{BeginIn, AreNumbered}
use Rattle.rl_reach.proofs.WalkLaws.{entry_from, in_range_from}
use Rattle.rl_reach.proofs.EdgeLaws.{AddSame, AreSorted, hit, edge_from, letters_find, firsts_same}

-- ---- lists

contains_in : (xs : List ℕ) (k x : ℕ) → k < length xs → slice_index_or xs k x ≡ x → In x xs
contains_in [] k x l e = absurd (omega arith)
contains_in (y ∷ xs) zero x l e = inl e
contains_in (y ∷ xs) (suc k) x l e = inr (contains_in xs k x (omega arith) e)

filter_in : (p q : ℕ → Bool) (xs : List ℕ) → ((x : ℕ) → In x xs → p x ≡ q x) → filter p xs ≡ filter q xs
filter_in p q [] h = refl
filter_in p q (x ∷ xs) h = λ i. cond (h x (inl refl) i) (x ∷ filter_in p q xs (λ y j. h y (inr j)) i) (filter_in p q xs (λ y j. h y (inr j)) i)

range_maps : (f : ℕ → ℕ) (a : ℕ) (xs : List ℕ) → ((k x : ℕ) → slice_get xs k ≡ Some x → f (a + k) ≡ x) → map f (range_with_len a (length xs)) ≡ xs
range_maps f a [] h = refl
range_maps f a (x ∷ xs) h =
    let z : a ≡ a + 0 = omega arith in
    let first : f a ≡ x = ap f z ∙ h zero x refl in
    λ i. first i ∷ range_maps f (a + 1) xs (λ k y e. ap f (next a k) ∙ h (suc k) y e) i
  where
    next : (a k : ℕ) → (a + 1) + k ≡ a + suc k
    next a k = omega arith

-- ---- the edges of a state

pub edges_sorted : (m : Minimal) → IsMinimal m → (c : ℕ) → AreSorted (edges_at m c)
edges_sorted m minimal c = by (slice_get m.states c) refl
  where
    by : (o : Option MinState) → slice_get m.states c ≡ o → AreSorted (option_map_or (λ (s : MinState). s.edges) o [])
    by None q = record { each = λ e z. absurd z; ascending = refl }
    by (Some s) q =
        let r = (minimal.states c s q).edges in
        record { each = λ e i. (All-In (IsEdge m.states s) s.edges e r.each i).reads; ascending = r.ascending }

pub edge_leads : (m : Minimal) → IsMinimal m → (c : ℕ) (e : MinEdge) → In e (edges_at m c) → e.target < length m.states
edge_leads m minimal c e = by (slice_get m.states c) refl
  where
    by : (o : Option MinState) → slice_get m.states c ≡ o → In e (option_map_or (λ (s : MinState). s.edges) o []) → e.target < length m.states
    by None q i = absurd i
    by (Some s) q i = let r = (minimal.states c s q).edges in (All-In (IsEdge m.states s) s.edges e r.each i).target.there

-- ---- the walk

module _ (entries : List EntryFsm) (alphabet : Alphabet) (context : Context) (m : Minimal) (is : IsMachineOf entries m) (minimal : IsMinimal m) (begin : BeginIn alphabet m) where
  abbrev root : Machine RootState
  root = root_machine entries context

  abbrev small : Machine ℕ
  small = min_machine m context

  abbrev letters : List (Key × ℕ)
  letters = letters_of alphabet

  abbrev count : ℕ
  count = length entries

  abbrev class : RootState → ℕ
  class = is.class

  abbrev At : RootState → ℕ → Type 0
  At = InClass root class (IsBuilt entries)

  abbrev twin : IsTwin root small (λ a. a) At
  twin = is.twin context

  -- a state that is reached, and has a number
  abbrev IsGood : RootState → Type 0
  IsGood q = IsBuilt entries q × (class q < length m.states)

  failed_is : class None ≡ 0
  failed_is = sym twin.failed.0

  step_good : (q : RootState) (key : Key) (hold : ℕ) (g : Go RootState) → IsGood q → root.find q key hold ≡ Some g → IsGood g.target
  step_good q key hold g a e = by (edge_for (letter_of key hold) (edges_at m (class q))) refl (subst (λ o. GoR root small (λ a. a) At o (small.find (class q) key hold)) e (twin.find q (class q) key hold (refl, a.0)))
    where
      by : (o : Option MinEdge) → edge_for (letter_of key hold) (edges_at m (class q)) ≡ o → GoR root small (λ a. a) At (Some g) (option_map go_of o) → IsGood g.target
      by None f r = absurd r
      by (Some x) f r =
          let there = edge_leads m minimal (class q) x (edge_from (letter_of key hold) (edges_at m (class q)) x f).0 in
          (r.0.1, subst (λ n. n < length m.states) r.0.0 there)

  word_good : (word : List (Key × ℕ)) (q p : RootState) → Leads root letters count word q p → IsGood q → IsGood p
  word_good [] q p e a = subst IsGood e a
  word_good (l ∷ word) q p e a = word_good word e.0.target p e.2 (step_good q l.0 l.1 e.0 a e.1)

  entry_good : (e : ℕ) → 1 ≤ e → e ≤ count → IsGood (root.entry e)
  entry_good zero low high = absurd (omega arith)
  entry_good (suc k) low high =
      let t = twin.entry (suc k) in
      let starts : length m.entries ≡ count = is.starts in
      let x = get_exists m.entries k (omega arith) in
      let there : x.0 < length m.states = (All-In (IsEntry m.states) m.entries x.0 minimal.entries (get_In m.entries k x.0 x.1)).there in
      let same : x.0 ≡ class (root.entry (suc k)) = ap (λ o. unwrap_or o 0) (sym x.1) ∙ t.0 in
      (t.1, subst (λ n. n < length m.states) same there)

  known_good : (q : RootState) → IsKnown root letters count q → IsGood q
  known_good q (inl e) =
      let some : 2 ≤ length m.states = minimal.counts.states in
      let zero_is : class None ≡ 0 = failed_is in
      let here : class None < length m.states = omega arith in
      subst IsGood (sym e) (tt, here)
  known_good q (inr r) = word_good r.3 (root.entry r.0) q r.4 (entry_good r.0 r.1 r.2)

  -- ---- words

  leads_on : (word more : List (Key × ℕ)) (q p r : RootState) → Leads root letters count word q p → Leads root letters count more p r → Leads root letters count (word ++ more) q r
  leads_on [] more q p r e f = subst (λ w. Leads root letters count more w r) (sym e) f
  leads_on (l ∷ word) more q p r e f = (e.0, e.1, leads_on word more e.0.target p r e.2 f)

  built_reached : (e i : ℕ) → IsBuilt entries (Some (e, i)) → IsReached root letters count (Some (e, i))
  built_reached e i b =
      let n = entry_from count e b.0 in
      let start : root.entry e ≡ Some (e, (graph_at entries e).start) = ap (λ t. cond t (start_at (λ e. ℕ) (part_at entries) e) None) b.0 in
      let w = reach_all (λ i. (word : List (Key × ℕ)) × Leads root letters count word (root.entry e) (Some (e, i))) ([], start) (λ i r w l v s. further i w.0 w.1 l v s) i b.1 in
      (e, n.0, n.1, w.0, w.1)
    where
      further : (i : ℕ) (word : List (Key × ℕ)) → Leads root letters count word (root.entry e) (Some (e, i)) → (l : Letter) (v : Move ℕ) → (auto_at entries e).step i l ≡ Some v
          → (word : List (Key × ℕ)) × Leads root letters count word (root.entry e) (Some (e, v.to))
      further i word f l v s =
          let k : Key × ℕ = (record { 0 = l.key }, l.truths) in
          (word ++ k ∷ [], leads_on word (k ∷ []) (root.entry e) (Some (e, i)) (Some (e, v.to)) f (go_at (λ e. ℕ) (part_at entries) e v, ap (option_map (go_at (λ e. ℕ) (part_at entries) e)) s, refl))

  pub built_known : (q : RootState) → IsBuilt entries q → IsKnown root letters count q
  built_known None b = inl refl
  built_known (Some (e, i)) b = inr (built_reached e i b)

  numbered_reached : (q : RootState) → IsBuilt entries q → 1 ≤ class q → IsReached root letters count q
  numbered_reached None b low = let z : class None ≡ 0 = failed_is in absurd (omega arith)
  numbered_reached (Some (e, i)) b low = built_reached e i b

  -- ---- a state of each number

  pick : (c : ℕ) → (c < length m.states) ⊎ (length m.states ≤ c) → RootState
  pick c (inl l) = (is.used c l).0
  pick c (inr g) = None

  pub state : ℕ → RootState
  state c = pick c (cases_lt c (length m.states))

  state_right : (c : ℕ) → c < length m.states → IsBuilt entries (state c) × (class (state c) ≡ c)
  unfolding state pick
  state_right c h = by (cases_lt c (length m.states))
    where
      by : (x : (c < length m.states) ⊎ (length m.states ≤ c)) → IsBuilt entries (pick c x) × (class (pick c x) ≡ c)
      by (inl l) = let u = is.used c l in (u.1, u.2)
      by (inr g) = absurd (omega arith)

  in_order : (c : ℕ) → In c is.order → (1 ≤ c) × (c < length m.states)
  in_order c h =
      let r = in_range_from 1 (length is.order) c (subst (In c) is.canonical.counted (by (is_final m c) refl)) in
      let low : 1 ≤ c = r.0 in
      let high : c < 1 + length is.order = r.1 in
      let whole : length m.states ≡ suc (length is.order) = is.canonical.whole in
      (low, omega arith)
    where
      by : (b : Bool) → is_final m c ≡ b → In c (filter (λ i. not (is_final m i)) is.order ++ filter (is_final m) is.order)
      by true e = In-append_right c (filter (λ i. not (is_final m i)) is.order) (filter (is_final m) is.order) (In-filter (is_final m) c is.order h e)
      by false e = In-append_left c (filter (λ i. not (is_final m i)) is.order) (filter (is_final m) is.order) (In-filter (λ i. not (is_final m i)) c is.order h (ap not e))

  -- ---- the walk's parts

  go_same : (o : Option (Go RootState)) (x : Option MinEdge) → GoR root small (λ a. a) At o (option_map go_of x) → option_map (λ (g : Go RootState). class g.target) o ≡ option_map (λ (e : MinEdge). e.target) x
  go_same None None r = refl
  go_same None (Some x) r = absurd r
  go_same (Some g) None r = absurd r
  go_same (Some g) (Some x) r = ap Some (sym r.0.0)

  targets_same : (c : ℕ) → c < length m.states → targets root letters count class state c ≡ filter_map (hit (edges_at m c)) letters
  targets_same c h =
      let s = state_right c h in
      λ i. filter_map (λ (l : Key × ℕ). go_same (root.find (state c) l.0 l.1) (edge_for (letter_of l.0 l.1) (edges_at m c)) (twin.find (state c) c l.0 l.1 (sym s.1, s.0)) i) letters

  lead_same : (c : ℕ) → In c is.order → AddSame (targets_at m c) (targets root letters count class state c)
  lead_same c h = subst (AddSame (targets_at m c)) (sym (targets_same c (in_order c h).1)) (letters_find (edges_at m c) alphabet (edges_sorted m minimal c) (λ e i. begin c e i))

  starts_are : m.entries ≡ map (λ e. class (root.entry e)) (range_with_len 1 count)
  starts_are =
      sym (range_maps (λ e. class (root.entry e)) 1 m.entries (λ k x e. ap (λ e. class (root.entry e)) (one k) ∙ sym (twin.entry (suc k)).0 ∙ ap (λ o. unwrap_or o 0) e))
      ∙ ap (λ n. map (λ e. class (root.entry e)) (range_with_len 1 n)) is.starts
    where
      one : (k : ℕ) → 1 + k ≡ suc k
      one k = omega arith

  walk_is : IsBreadthFirst root letters count class state is.order
  walk_is = record {
    met = is.canonical.met ∙ firsts_same m.entries (targets_at m) (targets root letters count class state) is.order lead_same
        ∙ ap (λ w. firsts (w ++ flat_map (targets root letters count class state) is.order)) starts_are;
    reached = λ c h.
        let i = in_order c (contains_in is.order h.0 c h.1 h.2) in
        let s = state_right c i.1 in
        let low : 1 ≤ c = i.0 in
        (state c, numbered_reached (state c) s.0 (subst (λ n. 1 ≤ n) (sym s.1) low), s.1);
  }

  final_same : (c : ℕ) → In c is.order → is_final m c ≡ root.final (state c)
  final_same c h = let s = state_right c (in_order c h).1 in twin.final (state c) c (sym s.1, s.0)

  counted_is : filter (λ c. not (root.final (state c))) is.order ++ filter (λ c. root.final (state c)) is.order ≡ range_with_len 1 (length is.order)
  counted_is =
      (λ i. filter_in (λ c. not (root.final (state c))) (λ c. not (is_final m c)) is.order (λ c h. ap not (sym (final_same c h))) i
      ++ filter_in (λ c. root.final (state c)) (is_final m) is.order (λ c h. sym (final_same c h)) i)
      ∙ is.canonical.counted

  classes_are : IsLeast entries m is context → AreClasses root (IsKnown root letters count) class state
  classes_are least = record {
    sound = λ q p a b e. least.sound q p (known_good q a).0 (known_good p b).0 e;
    complete = λ q p a b s. least.complete q p (known_good q a).0 (known_good p b).0 s;
    picks = λ q a. let s = state_right (class q) (known_good q a).1 in (built_known (state (class q)) s.0, s.1);
  }

  pub numbered_by_letters : AreNumbered entries alphabet context m is
  numbered_by_letters = record {
    state = state;
    walk = walk_is;
    canonical = λ least. record {
      classes = classes_are least;
      failed = failed_is;
      walk = walk_is;
      counted = counted_is;
    };
  }
