-- A right certificate shows that each state is reached and that no two are alike.
use Rattle.std.proofs.Common.{◌≡◌, ℕ, zero, suc, ◌+◌, ◌-◌, ◌<◌, ◌≤◌, Bool, not, ◌&&◌, List, [], ◌∷◌, length, Option, Some, None, option_map, IsTrue, slice_get, refl, ap, sym, ◌∙◌, subst, inl, inr, arith, true≢false}
use Rattle.std.specs.List.{range_with_len}
use Rattle.std.specs.Option.{option_map_or}
use native.Mathlib.Decide.{dec_lt}
use borrow.Author.Tests.{eq-eqb}
use Rattle.rl_types.specs.declared.numbers.ActionId.{ActionId}
use Rattle.rl_types.specs.declared.numbers.Key.{Key}
use Rattle.rl_types.specs.declared.numbers.Letter.{Letter}
use Rattle.rl_sets.specs.Sets.{In}
use Rattle.rl_sets.proofs.SetLaws.{In-map, In-map_from, In-flat_map}
use Rattle.rl_fsm.proofs.PieceLaws.{All-In}
use Rattle.rl_run.specs.Machine.{Go, Machine}
use Rattle.rl_run.specs.Classes.{BothStep, AgreeAlong, Agree, AreAlike}
use Rattle.rl_run.specs.Classes as R
use Rattle.rl_model.specs.Parts.{Context}
use Rattle.rl_minimal.specs.declared.state.MinState.{MinState}
use Rattle.rl_minimal.specs.declared.state.MinEdge.{MinEdge}
use Rattle.rl_minimal.specs.Minimal.{Minimal, numbers, at_state, kind_at, home_at}
use Rattle.rl_minimal.specs.Machine.{edge_for, go_of, edges_at, min_machine}
use Rattle.rl_minimal.specs.Sound.{IsEdge, IsMinimal}
use Rattle.rl_certificate.specs.declared.certificate.Access.{Access}
use Rattle.rl_certificate.specs.declared.certificate.Apart.{Apart}
use Rattle.rl_certificate.specs.declared.certificate.Certificate.{Certificate}
use Rattle.rl_certificate.specs.Walks.{and_then, walk, LeadsTo}
use Rattle.rl_certificate.specs.Views.{list_at, ShowSame}
use Rattle.rl_certificate.specs.Certificates.{states_of, pairs_with, pairs_of, do_homes_count, Differ, IsAccess, IsApart, IsRight}
use Rattle.rl_certificate.specs.Reduced.{IsReached, IsReduced}
use Rattle.rl_certificate.proofs.WalkLaws.{edge_from}

-- ---- what a list of states or pairs has

in_range_list : (a n i : ℕ) → a ≤ i → i < a + n → In i (range_with_len a n)
in_range_list a zero i l h = absurd (omega arith)
in_range_list a (suc n) i l h = elim (dec_lt a i) [
  | yes p ↦ inr (in_range_list (a + 1) n i (omega arith) (omega arith))
  | no p ↦ inl (omega arith)
]

in_states : (n i : ℕ) → 0 < i → i < n → In i (states_of n)
in_states n i z l = in_range_list 1 (n - 1) i z (omega arith)

in_pairs : (n i j : ℕ) → 0 < i → i < j → j < n → In (i, j) (pairs_of n)
in_pairs n i j z l h =
    In-flat_map (pairs_with n) (i, j) i (states_of n) (in_states n i z (omega arith))
    (In-map (λ k. (i, k)) j (range_with_len (suc i) (n - suc i)) (in_range_list (suc i) (n - suc i) j (omega arith) (omega arith)))

-- ---- alike, the other way round

module _ {S : Type 0} (M : Machine S) where
  both_back : (word : List (Key × ℕ)) → ((q p : S) → AgreeAlong M word q p → AgreeAlong M word p q) → (g h : Option (Go S)) → BothStep M (AgreeAlong M word) g h → BothStep M (AgreeAlong M word) h g
  both_back word f None None b = b
  both_back word f (Some g) (Some h) b = (sym b.0, f g.target h.target b.1)
  both_back word f None (Some h) b = b
  both_back word f (Some g) None b = b

  along_back : (word : List (Key × ℕ)) (q p : S) → AgreeAlong M word q p → AgreeAlong M word p q
  along_back [] q p a = record {
    asked = λ k. sym (a.asked k);
    from = sym a.from;
    to = sym a.to;
    error = sym a.error;
    eof = sym a.eof;
    token = sym a.token;
    kind = sym a.kind;
    final = sym a.final;
    is_failed = sym a.is_failed;
  }
  along_back (l ∷ word) q p a = both_back word (along_back word) (M.find q l.0 l.1) (M.find p l.0 l.1) a

  agree_back : (q p : S) → Agree M q p → Agree M p q
  agree_back q p a word = along_back word q p (a word)

-- ---- lists by their numbers

cons_same : (x y : ActionId) (xs ys : List ActionId) → x.0 ≡ y.0 → xs ≡ ys → x ∷ xs ≡ y ∷ ys
cons_same x y xs ys e f = λ i. record { 0 = e i } ∷ f i

cons_first : (a b : ℕ) (ks ns : List ℕ) → a ∷ ks ≡ b ∷ ns → a ≡ b
cons_first a b ks ns e = cc

cons_rest : (a b : ℕ) (ks ns : List ℕ) → a ∷ ks ≡ b ∷ ns → ks ≡ ns
cons_rest a b ks ns e = cc

none_cons : (a : ℕ) (ks : List ℕ) → [] ≡ a ∷ ks → ⊥
none_cons a ks e = cc

numbers_same : (xs ys : List ActionId) → numbers xs ≡ numbers ys → xs ≡ ys
numbers_same [] [] e = refl
numbers_same [] (y ∷ ys) e = absurd (none_cons y.0 (numbers ys) e)
numbers_same (x ∷ xs) [] e = absurd (none_cons x.0 (numbers xs) (sym e))
numbers_same (x ∷ xs) (y ∷ ys) e = cons_same x y xs ys (cons_first x.0 y.0 (numbers xs) (numbers ys) e) (numbers_same xs ys (cons_rest x.0 y.0 (numbers xs) (numbers ys) e))

numbers_told : (f : MinState → List ActionId) (o : Option MinState) → numbers (option_map_or f o []) ≡ option_map_or (λ s. numbers (f s)) o []
numbers_told f None = refl
numbers_told f (Some s) = refl

module _ (m : Minimal) (sound : IsMinimal m) (context : Context) where
  abbrev M : Machine ℕ
  M = min_machine m context

  lists_same : (f : MinState → List ActionId) (i j : ℕ) → at_state [] (λ s. numbers (f s)) m.states i ≡ at_state [] (λ s. numbers (f s)) m.states j → list_at f m i ≡ list_at f m j
  lists_same f i j e = numbers_same (list_at f m i) (list_at f m j) (numbers_told f (slice_get m.states i) ∙ e ∙ sym (numbers_told f (slice_get m.states j)))

  -- ---- states that agree show the same

  step_same : (after : ℕ → ℕ → Type 0) (o p : Option MinEdge) → BothStep M after (option_map go_of o) (option_map go_of p) → option_map (λ (e : MinEdge). e.list) o ≡ option_map (λ (e : MinEdge). e.list) p
  step_same after None None b = refl
  step_same after (Some e) (Some f) b = ap Some (sym (numbers_same f.list e.list b.0))
  step_same after None (Some f) b = absurd b
  step_same after (Some e) None b = absurd b

  agree_shows : (homes : Bool) (i j : ℕ) → Agree M i j → (IsTrue homes → home_at m.states i ≡ home_at m.states j) → ShowSame m homes i j
  agree_shows homes i j a h = let s : R.ShowSame M i j = a [] in record {
    from = lists_same (λ s. s.from) i j (sym s.from);
    to = lists_same (λ s. s.to) i j (sym s.to);
    eof = lists_same (λ s. s.eof) i j (sym s.eof);
    error = lists_same (λ s. s.error) i j (sym s.error);
    token = lists_same (λ s. s.token) i j (sym s.token);
    verdict = sym s.final;
    kind = sym s.kind;
    home = h;
    steps = record {
      asked = λ k. sym (s.asked (record { 0 = k }));
      lists = λ l. step_same (AgreeAlong M []) (edge_for l (edges_at m i)) (edge_for l (edges_at m j)) (a ((record { 0 = l.key }, l.truths) ∷ []));
    };
  }

  -- ---- edges stay in their scanner

  state_edge : (i : ℕ) (e : MinEdge) → In e (edges_at m i) → home_at m.states e.target ≡ home_at m.states i
  state_edge i e j = by (slice_get m.states i) refl j
    where
      zero_home : (t : ℕ) → kind_at m.states t ≡ 0 → home_at m.states t ≡ 0
      zero_home t k = at (slice_get m.states t) refl k
        where
          at : (o : Option MinState) → slice_get m.states t ≡ o → option_map_or (λ s. s.kind) o 0 ≡ 0 → option_map_or (λ s. s.home) (slice_get m.states t) 0 ≡ 0
          at None q k = ap (λ o. option_map_or (λ s. s.home) o 0) q
          at (Some s) q k = ap (λ o. option_map_or (λ s. s.home) o 0) q ∙ (sound.states t s q).home.plain k

      by : (o : Option MinState) → slice_get m.states i ≡ o → In e (option_map_or (λ s. s.edges) o []) → home_at m.states e.target ≡ option_map_or (λ s. s.home) (slice_get m.states i) 0
      by None q l = absurd l
      by (Some s) q l =
          let r = sound.states i s q in
          let t = (All-In (IsEdge m.states s) s.edges e r.edges.each l).target.stays in
          (elim (dec_lt 0 s.kind) [
            | yes p ↦ t.same_home p
            | no p ↦ let z : s.kind ≡ 0 = omega arith in zero_home e.target (t.plain z) ∙ sym (r.home.plain z)
          ]) ∙ sym (ap (λ o. option_map_or (λ s. s.home) o 0) q)

  -- ---- states that agree are told apart by no word

  -- homes are equal wherever they count
  abbrev pub SameHomes : Bool → ℕ → ℕ → Type 0
  SameHomes homes i j = IsTrue homes → home_at m.states i ≡ home_at m.states j

  abbrev target_of : Option MinEdge → Option ℕ
  target_of o = option_map (λ (e : MinEdge). e.target) o

  agree_step : (homes : Bool) (l : Letter) (word : List Letter) (i j : ℕ) → SameHomes homes i j
      → ((q p : ℕ) → Agree M q p → SameHomes homes q p → Differ m homes (walk m word q) (walk m word p) → ⊥)
      → (o p : Option MinEdge) → edge_for l (edges_at m i) ≡ o → edge_for l (edges_at m j) ≡ p
      → ((w : List (Key × ℕ)) → BothStep M (AgreeAlong M w) (option_map go_of o) (option_map go_of p))
      → Differ m homes (and_then (target_of o) (walk m word)) (and_then (target_of p) (walk m word)) → ⊥
  agree_step homes l word i j h later None None q r b d = d
  agree_step homes l word i j h later None (Some f) q r b d = b []
  agree_step homes l word i j h later (Some e) None q r b d = b []
  agree_step homes l word i j h later (Some e) (Some f) q r b d =
      later e.target f.target (λ w. (b w).1)
      (λ t. state_edge i e (edge_from l (edges_at m i) e q).0 ∙ h t ∙ sym (state_edge j f (edge_from l (edges_at m j) f r).0)) d

  agree_walk : (homes : Bool) (word : List Letter) (i j : ℕ) → Agree M i j → SameHomes homes i j → Differ m homes (walk m word i) (walk m word j) → ⊥
  agree_walk homes [] i j a h d = d (agree_shows homes i j a h)
  agree_walk homes (l ∷ word) i j a h d =
      agree_step homes l word i j h (agree_walk homes word) (edge_for l (edges_at m i)) (edge_for l (edges_at m j)) refl refl
      (λ w. a ((record { 0 = l.key }, l.truths) ∷ w)) d

  -- ---- homes

  get_there : {X : Type 0} (xs : List X) (i : ℕ) → i < length xs → (x : X) × (slice_get xs i ≡ Some x)
  get_there [] i h = absurd (omega arith)
  get_there (x ∷ xs) zero h = (x, refl)
  get_there (x ∷ xs) (suc i) h = get_there xs i (omega arith)

  pub record IsAtHome (i : ℕ) : Type 0 where
    pub plain : kind_at m.states i ≡ 0 → home_at m.states i ≡ 0
    pub there : 0 < kind_at m.states i → home_at m.states i < length m.states
    pub start : 0 < kind_at m.states i → kind_at m.states (home_at m.states i) ≡ 1

  at_home : (i : ℕ) → i < length m.states → IsAtHome i
  at_home i h =
      let p = get_there m.states i h in
      let k : kind_at m.states i ≡ p.0.kind = ap (λ o. option_map_or (λ (s : MinState). s.kind) o 0) p.1 in
      let w : home_at m.states i ≡ p.0.home = ap (λ o. option_map_or (λ (s : MinState). s.home) o 0) p.1 in
      let r = (sound.states i p.0 p.1).home in
      record {
        plain = λ z. w ∙ r.plain (sym k ∙ z);
        there = λ l. subst (λ n. n < length m.states) (sym w) (r.there (subst (λ n. 0 < n) k l));
        start = λ l. subst (λ n. kind_at m.states n ≡ 1) (sym w) (r.start (subst (λ n. 0 < n) k l));
      }

  -- Error is plain
  start_alive : (a : ℕ) → kind_at m.states a ≡ 1 → 0 < a
  start_alive zero k =
      let p = get_there m.states 0 (let c : 2 ≤ length m.states = sound.counts.states in omega arith) in
      let z : kind_at m.states 0 ≡ 0 = ap (λ o. option_map_or (λ (s : MinState). s.kind) o 0) p.1 ∙ (sound.error p.0 p.1).kind in
      let f : kind_at m.states 0 ≡ 1 = k in
      omega arith
  start_alive (suc a) k = omega arith

  module _ (c : Certificate) (right : IsRight m c) where
    pub pair_differs : (i j : ℕ) → 0 < i → i < j → j < length m.states → (word : List Letter) × Differ m (do_homes_count m i j) (walk m word i) (walk m word j)
    pair_differs i j z l h =
        let f : Apart → ℕ × ℕ = λ (p : Apart). (p.low, p.high) in
        let p = In-map_from f (i, j) c.apart.items (subst (In (i, j)) (sym right.pairs) (in_pairs (length m.states) i j z l h)) in
        let r = All-In (IsApart m) c.apart.items p.0 right.apart p.1 in
        (p.0.word.items, subst (λ (q : ℕ × ℕ). Differ m (do_homes_count m q.0 q.1) (walk m p.0.word.items q.0) (walk m p.0.word.items q.1)) p.2 r.differ)

    starts_unlike : (a b : ℕ) → a < b → b < length m.states → kind_at m.states a ≡ 1 → kind_at m.states b ≡ 1 → Agree M a b → ⊥
    starts_unlike a b l h j k g =
        let p = pair_differs a b (start_alive a j) l h in
        agree_walk (do_homes_count m a b) p.0 a b g (λ t. absurd (never t)) p.1
      where
        never : IsTrue (do_homes_count m a b) → ⊥
        never t = true≢false (sym t ∙ (λ i. not (eq-eqb (kind_at m.states a) 1 j i && eq-eqb (kind_at m.states b) 1 k i)))

    homes_same : (i j : ℕ) → i < length m.states → j < length m.states → AreAlike M i j → home_at m.states i ≡ home_at m.states j
    homes_same i j h k a = elim (dec_lt (kind_at m.states i) 1) [
      | yes p ↦ (at_home i h).plain (omega arith) ∙ sym ((at_home j k).plain (let s : kind_at m.states j ≡ kind_at m.states i = (a.0 []).kind in omega arith))
      | no p ↦
          let s : kind_at m.states j ≡ kind_at m.states i = (a.0 []).kind in
          let x : 0 < kind_at m.states i = omega arith in
          let y : 0 < kind_at m.states j = omega arith in
          let one = at_home i h in
          let other = at_home j k in
          elim (dec_lt (home_at m.states i) (home_at m.states j)) [
            | yes l ↦ absurd (starts_unlike (home_at m.states i) (home_at m.states j) l (other.there y) (one.start x) (other.start y) a.1)
            | no n ↦ elim (dec_lt (home_at m.states j) (home_at m.states i)) [
              | yes l ↦ absurd (starts_unlike (home_at m.states j) (home_at m.states i) l (one.there x) (other.start y) (one.start x) (agree_back M (home_at m.states i) (home_at m.states j) a.1))
              | no o ↦ omega arith
            ]
          ]
    ]

    below_unlike : (i j : ℕ) → 0 < i → i < j → j < length m.states → AreAlike M i j → ⊥
    below_unlike i j z l h a =
        let p = pair_differs i j z l h in
        agree_walk (do_homes_count m i j) p.0 i j a.0 (λ t. homes_same i j (omega arith) h a) p.1

    pub unlike : (i j : ℕ) → 0 < i → i < length m.states → 0 < j → j < length m.states → AreAlike M i j → i ≡ j
    unlike i j y h z k a = elim (dec_lt i j) [
      | yes l ↦ absurd (below_unlike i j y l k a)
      | no n ↦ elim (dec_lt j i) [
        | yes l ↦ absurd (below_unlike j i z l h (agree_back M i j a.0, agree_back M (home_at m.states i) (home_at m.states j) a.1))
        | no o ↦ omega arith
      ]
    ]

reached : (m : Minimal) (c : Certificate) → IsRight m c → (i : ℕ) → 0 < i → i < length m.states → IsReached m i
reached m c right i z h =
    let f : Access → ℕ = λ (a : Access). a.state in
    let p = In-map_from f i c.access.items (subst (In i) (sym right.states) (in_states (length m.states) i z h)) in
    record { entry = p.0.entry.0; word = p.0.word.items; leads = subst (LeadsTo m p.0.entry.0 p.0.word.items) p.2 (All-In (IsAccess m) c.access.items p.0 right.access p.1) }

pub right_reduced : (m : Minimal) (c : Certificate) → IsMinimal m → IsRight m c → IsReduced m
right_reduced m c sound right = record { reached = reached m c right; unlike = λ context. unlike m sound context c right }
