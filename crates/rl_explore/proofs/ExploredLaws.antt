-- The steps and the end of an exploration.
use Rattle.std.proofs.Common.{◌≡◌, ℕ, suc, ◌+◌, ◌<◌, ◌≤◌, Bool, true, false, cond, ◌||◌, List, [], ◌∷◌, ◌++◌, ◌⊎◌, map, length, Option, Some, None, option_map, slice_get, refl, ap, sym, ◌∙◌, subst, inl, inr, arith, true≢false}
use native.Mathlib.Decide.{dec_lt}
use Rattle.rl_types.specs.declared.numbers.Letter.{Letter}
use Rattle.rl_sets.specs.Sets.{In}
use Rattle.rl_sets.proofs.SetLaws.{In-map}
use Rattle.rl_labels.specs.Carries.{no_carry}
use Rattle.rl_automata.specs.declared.moves.Move.{Move}
use Rattle.rl_automata.specs.Auto.{Auto, on_part, quiet}
use Rattle.rl_automata.specs.Follows.{Reach, begun, went, renamed}
use Rattle.rl_automata.specs.Refused.{AreDifferent, HasMore, JamsSomewhere}
use Rattle.rl_automata.proofs.Congruence.{reach_all, some_in, none_in}
use Rattle.rl_fsm.specs.declared.edge.Edge.{Edge}
use Rattle.rl_fsm.specs.declared.state.State.{State}
use Rattle.rl_fsm.specs.Reads.{takes, asks_at, ascend}
use Rattle.rl_fsm.specs.Graphs.{Graph, fsm_auto, state_at, reads_of, edge_for, move_of, carry_out, marks_of}
use Rattle.rl_fsm.specs.Sound.{IsEdge, AreEdges, IsSound}
use Rattle.rl_fsm.specs.Builds.{Builds}
use Rattle.rl_fsm.proofs.PieceLaws.{All-from_In}
use Rattle.rl_explore.specs.declared.made.Made.{Made}
use Rattle.rl_explore.specs.Rows.{found_reads, found_move, found_for}
use Rattle.rl_explore.specs.Numbers.{HasNumber, name_at, with_name, IsState, LeadsTo, Overflows, IsMade, Explored}
use Rattle.rl_explore.proofs.NumberLaws.{length-push, get_below, get_at_end, get_front, get_In, In_get, get_exists, different_same, extends_get, extends_length, name_there, state_kept, known_from-push}

below_or_at : (i n : ℕ) → i < n + 1 → (i < n) ⊎ (i ≡ n)
below_or_at i n h = elim (dec_lt i n) [ yes l ↦ inl l | no k ↦ inr (omega arith) ]

either_true : (a b : Bool) → (a || b) ≡ true → (a ≡ true) ⊎ (b ≡ true)
either_true true b e = inl refl
either_true false b e = inr e

either_false : (a b : Bool) → (a || b) ≡ false → (a ≡ false) × (b ≡ false)
either_false true b e = absurd (true≢false e)
either_false false b e = (refl, e)

-- ---- more numbers than configurations

-- without one of its elements a list is shorter by one
without_one : {S : Type 0} (ys : List S) (c : S) → In c ys → (zs : List S) × (length ys ≡ suc (length zs)) × ((x : S) → In x ys → (c ≡ x) ⊎ In x zs)
without_one [] c h = absurd h
without_one (y ∷ ys) c (inl e) = (ys, refl, (λ x i. elim i [ inl f ↦ inl (sym e ∙ f) | inr j ↦ inr j ]))
without_one (y ∷ ys) c (inr h) =
    let p = without_one ys c h in
    (y ∷ p.0, ap suc p.1, (λ x i. elim i [ inl f ↦ inr (inl f) | inr j ↦ elim (p.2 x j) [ inl q ↦ inl q | inr q ↦ inr (inr q) ] ]))

pub different_within : {S : Type 0} (cs ys : List S) → AreDifferent cs → ((x : S) → In x cs → In x ys) → length cs ≤ length ys
different_within [] ys d h = omega arith
different_within (c ∷ cs) ys d h =
    let p = without_one ys c (h c (inl refl)) in
    let l : length cs ≤ length p.0 = different_within cs p.0 d.1 (λ x i. elim (p.2 x (h x (inr i))) [ inl e ↦ absurd (d.0 (subst (λ w. In w cs) (sym e) i)) | inr j ↦ j ]) in
    let e : length ys ≡ suc (length p.0) = p.1 in
    omega arith

module _ {S : Type 0} (A : Auto S) (jams : S → Letter → Bool) (room : ℕ) where
  pub explored_first : (names : List S) (s : S) (n : ℕ) → 1 ≤ room → HasNumber [] names s n → s ≡ A.start → Explored A jams room names [] false
  explored_first names s n few h e = subst (λ w. Explored A jams room w [] false) (sym (one ∙ ap (λ w. w ∷ []) e)) (record {
    few = few;
    within = within;
    start = refl;
    differ = ((λ i. i), tt);
    reached = λ c i. elim i [ inl q ↦ subst (Reach A) q begun | inr z ↦ absurd z ];
    made = λ j c t p q. none_in t q;
    known = refl;
    jammed = λ q. absurd (true≢false (sym q));
    clear = λ q j c l. absurd (omega arith);
  })
    where
      one : names ≡ s ∷ []
      one = elim h.grows [ inl q ↦ let l : n < 0 = q.1 in absurd (omega arith) | inr q ↦ q.0 ]

      within : 0 ≤ 1
      within = omega arith

  pub explored_full : (names : List S) (states : List State) (cycle : Bool) (c : S) → Explored A jams room names states cycle → In c names → Overflows room names (LeadsTo A c) → HasMore A room
  explored_full names states cycle c x i o =
      let p = o x.differ in (
        p.0,
        (
          p.1,
          (λ y j. elim (p.2 y j) [
            | inl k ↦ x.reached y k
            | inr k ↦ subst (Reach A) k.3 (went (x.reached c i) k.0 k.1 k.2)
          ]),
        ),
        p.3,
      )

  pub explored_more : (names names' : List S) (states : List State) (cycle cycle' : Bool) (c : S) (m : Made) → Explored A jams room names states cycle → length states < length names
      → slice_get names (length states) ≡ Some c → IsMade A jams c names names' m → length names' ≤ room → cycle' ≡ (cycle || m.cycle)
      → Explored A jams room names' (states ++ m.state ∷ []) cycle'
  explored_more names names' states cycle cycle' c m x lt at h few both =
      let l : length (states ++ m.state ∷ []) ≡ length states + 1 = length-push states m.state in
      let more : length names ≤ length names' = extends_length names names' h.grows.extends in
      record {
        few = few;
        within = omega arith;
        start = extends_get names names' 0 A.start h.grows.extends x.start;
        differ = h.grows.differ x.differ;
        reached = λ y i. elim (h.grows.from y i) [
          | inl j ↦ x.reached y j
          | inr k ↦ subst (Reach A) k.3 (went (x.reached c (get_In names (length states) c at)) k.0 k.1 k.2)
        ];
        made = λ j d t p q. made_at j d t p q (below_or_at j (length states) (let b : j < length (states ++ m.state ∷ []) = get_below (states ++ m.state ∷ []) j t q in omega arith));
        known = known_from-push 0 1 states m.state (length names) (length names') x.known (omega arith) h.grows.known;
        jammed = λ q. elim (either_true cycle m.cycle (sym both ∙ q)) [
          | inl e ↦ x.jammed e
          | inr e ↦ let p = h.cycle e in (c, x.reached c (get_In names (length states) c at), p.0, p.1)
        ];
        clear = λ q j d b p. clear_at (either_false cycle m.cycle (sym both ∙ q)) j d p (below_or_at j (length states) (omega arith));
      }
    where
      -- the same number had the same configuration before
      before : (j : ℕ) (d : S) → j < length names → slice_get names' j ≡ Some d → slice_get names j ≡ Some d
      before j d b p = let q = get_exists names j b in q.1 ∙ ap Some (some_in q.0 d (sym (extends_get names names' j q.0 h.grows.extends q.1) ∙ p))

      made_at : (j : ℕ) (d : S) (t : State) → slice_get names' j ≡ Some d → slice_get (states ++ m.state ∷ []) j ≡ Some t → (j < length states) ⊎ (j ≡ length states) → IsState A names' d t
      made_at j d t p q (inl b) =
          let r = get_exists states j b in
          let same : r.0 ≡ t = some_in r.0 t (sym (get_front states (m.state ∷ []) j r.0 r.1) ∙ q) in
          state_kept A names names' d t h.grows.extends (x.made j d t (before j d (omega arith) p) (r.1 ∙ ap Some same))
      made_at j d t p q (inr e) =
          let this : m.state ≡ t = some_in m.state t (sym (get_at_end states m.state) ∙ ap (slice_get (states ++ m.state ∷ [])) (sym e) ∙ q) in
          let that : c ≡ d = some_in c d (sym (extends_get names names' (length states) c h.grows.extends at) ∙ ap (slice_get names') (sym e) ∙ p) in
          subst (λ w. IsState A names' w t) that (subst (λ w. IsState A names' c w) this h.state)

      clear_at : (cycle ≡ false) × (m.cycle ≡ false) → (j : ℕ) (d : S) → slice_get names' j ≡ Some d → (j < length states) ⊎ (j ≡ length states) → (l : Letter) → jams d l ≡ false
      clear_at n j d p (inl b) l = x.clear n.0 j d b (before j d (omega arith) p) l
      clear_at n j d p (inr e) l =
          subst (λ w. jams w l ≡ false) (some_in c d (sym (extends_get names names' (length states) c h.grows.extends at) ∙ ap (slice_get names') (sym e) ∙ p)) (h.clear n.1 l)

  -- ---- a machine whose states are all made

  find-map : (names : List S) (d : S) (l : Letter) (es : List Edge) → found_for l (map (with_name names d) es) ≡ option_map (with_name names d) (edge_for l es)
  find-map names d l [] = refl
  find-map names d l (e ∷ es) =
      elim (takes l (reads_of e)) as (λ b. cond b (Some (with_name names d e)) (found_for l (map (with_name names d) es)) ≡ option_map (with_name names d) (cond b (Some e) (edge_for l es))) [
        | true ↦ refl
        | false ↦ find-map names d l es
      ]

  reads-map : (names : List S) (d : S) (es : List Edge) → map found_reads (map (with_name names d) es) ≡ map reads_of es
  reads-map names d [] = refl
  reads-map names d (e ∷ es) = ap (λ w. reads_of e ∷ w) (reads-map names d es)

  find_in : (l : Letter) (es : List Edge) (e : Edge) → edge_for l es ≡ Some e → In e es
  find_in l [] e h = none_in e h
  find_in l (f ∷ es) e h =
      (elim (takes l (reads_of f)) as (λ b. cond b (Some f) (edge_for l es) ≡ Some e → In e (f ∷ es)) [
        | true ↦ λ q. inl (some_in f e q)
        | false ↦ λ q. inr (find_in l es e q)
      ]) h

  module _ (names : List S) (states : List State) (cycle : Bool) (x : Explored A jams room names states cycle) (all : length names ≤ length states) (fits : room ≤ 2147483646) where
    abbrev G : Graph
    G = record { start = 0; states = states }

    abbrev name : ℕ → S
    name i = name_at names i A.start

    same_length : length states ≡ length names
    same_length = let w : length states ≤ length names = x.within in omega arith

    -- the state of a number
    numbered_state : (i : ℕ) → i < length names → (s : State) × (state_at G i ≡ Some s) × IsState A names (name i) s
    numbered_state i h =
        let s = get_exists states i (omega arith) in
        let c = get_exists names i h in
        (s.0, s.1, subst (λ w. IsState A names w s.0) (sym (name_there names i c.0 A.start c.1)) (x.made i c.0 s.0 c.1 s.1))

    fsm_step : (i : ℕ) (s : State) (l : Letter) → state_at G i ≡ Some s → (fsm_auto G).step i l ≡ option_map move_of (edge_for l s.edges)
    fsm_step i s l e = ap (on_part None (λ (w : State). option_map move_of (edge_for l w.edges))) e

    moves_below : (i : ℕ) → i < length names → (l : Letter) (v : Move ℕ) → (fsm_auto G).step i l ≡ Some v → v.to < length names
    moves_below i h l v e =
        let p = numbered_state i h in
        (elim (edge_for l p.0.edges) as (λ o. edge_for l p.0.edges ≡ o → option_map move_of o ≡ Some v → v.to < length names) [
          | None ↦ λ q f. none_in v f
          | Some g ↦ λ q f. subst (λ w. w.to < length names) (some_in (move_of g) v f) (p.2.below g (find_in l p.0.edges g q))
        ]) refl (sym (fsm_step i p.0 l p.1) ∙ e)

    some_names : 0 < length names
    some_names = get_below names 0 A.start x.start

    reach_below : (i : ℕ) → Reach (fsm_auto G) i → i < length names
    reach_below = reach_all (λ i. i < length names) some_names (λ i r h l v e. moves_below i h l v e)

    step_named : (i : ℕ) → i < length names → (l : Letter) → option_map (renamed name) ((fsm_auto G).step i l) ≡ A.step (name i) l
    step_named i h l =
        let p = numbered_state i h in
        ap (option_map (renamed name)) (fsm_step i p.0 l p.1) ∙ go (edge_for l p.0.edges)
        ∙ sym (ap (option_map found_move) (find-map names A.start l p.0.edges)) ∙ (p.2.row A.start).steps l
      where
        go : (o : Option Edge) → option_map (renamed name) (option_map move_of o) ≡ option_map found_move (option_map (with_name names A.start) o)
        go None = refl
        go (Some e) = refl

    name_apart : (i j : ℕ) → i < length names → j < length names → name i ≡ name j → i ≡ j
    name_apart i j h k e =
        let p = get_exists names i h in
        let q = get_exists names j k in
        different_same names i j p.0 x.differ p.1 (q.1 ∙ ap Some (sym (sym (name_there names i p.0 A.start p.1) ∙ e ∙ name_there names j q.0 A.start q.1)))

    state_edges : (s : State) → In s states → AreEdges (length states) s.edges
    state_edges s i =
        let j = In_get states s i in
        let below : j.0 < length names = let b : j.0 < length states = get_below states j.0 s j.1 in omega arith in
        let c = get_exists names j.0 below in
        let h = x.made j.0 c.0 s c.1 j.1 in
        let r = h.row A.start in
        record {
          each = All-from_In (IsEdge (length states)) s.edges (λ e k.
              let f = r.each (with_name names A.start e) (In-map (with_name names A.start) e s.edges k) in
              let b : e.target < length names = h.below e k in
              record { target = omega arith; truths = f.truths; asks = f.asks; keys = f.keys });
          ascending = ap ascend (sym (reads-map names A.start s.edges)) ∙ r.ascending;
        }

    pub explored_sound : IsSound G
    explored_sound = record {
      few = let f : length names ≤ room = x.few in omega arith;
      start = let z = some_names in omega arith;
      edges = All-from_In (λ (s : State). AreEdges (length states) s.edges) states state_edges;
    }

    pub explored_all : Builds (quiet A) G
    explored_all = record {
      sound = explored_sound;
      numbered = record { start = refl; known = x.known ∙ ap Some (sym same_length) };
      name = name;
      follows = record {
        start = name_there names 0 A.start A.start x.start;
        step = λ i r l. step_named i (reach_below i r) l;
        final = λ i r. let p = numbered_state i (reach_below i r) in ap (on_part false (λ (w : State). w.fin)) p.1 ∙ p.2.final;
        out = λ i r. let p = numbered_state i (reach_below i r) in ap (on_part no_carry (λ (w : State). carry_out w.out)) p.1 ∙ p.2.out;
        marks = λ i r k. let p = numbered_state i (reach_below i r) in ap (on_part [] (λ (w : State). marks_of k w.marks)) p.1 ∙ p.2.marks k;
        asked = λ i r k. let p = numbered_state i (reach_below i r) in
            ap (on_part 0 (λ (w : State). asks_at k (map reads_of w.edges))) p.1 ∙ ap (asks_at k) (sym (reads-map names A.start p.0.edges)) ∙ (p.2.row A.start).asks k;
        apart = λ i j r q e. name_apart i j (reach_below i r) (reach_below j q) e;
      };
    }

    -- ---- all that is reached has a number

    target_named : (es : List Edge) → ((e : Edge) → In e es → e.target < length names) → (l : Letter) (m : Move S) → option_map found_move (found_for l (map (with_name names A.start) es)) ≡ Some m → In m.to names
    target_named es b l m h =
        (elim (edge_for l es) as (λ o. edge_for l es ≡ o → option_map found_move (option_map (with_name names A.start) o) ≡ Some m → In m.to names) [
          | None ↦ λ q f. none_in m f
          | Some e ↦ λ q f.
              let p = get_exists names e.target (b e (find_in l es e q)) in
              subst (λ w. In w.to names) (some_in (found_move (with_name names A.start e)) m f) (subst (λ w. In w names) (sym (name_there names e.target p.0 A.start p.1)) (get_In names e.target p.0 p.1))
        ]) refl (ap (option_map found_move) (sym (find-map names A.start l es)) ∙ h)

    pub all_named : (c : S) → Reach A c → In c names
    all_named = reach_all (λ c. In c names) (get_In names 0 A.start x.start) (λ c r i l m e.
        let j = In_get names c i in
        let p = numbered_state j.0 (get_below names j.0 c j.1) in
        let h = x.made j.0 c p.0 j.1 p.1 in
        target_named p.0.edges h.below l m ((h.row A.start).steps l ∙ e))

    pub no_more : (n : ℕ) → length states ≤ n → ¬ HasMore A n
    no_more n h m =
        let l : length m.0 ≤ length names = different_within m.0 names m.1.0 (λ c i. all_named c (m.1.1 c i)) in
        let k : n < length m.0 = m.2 in
        let s = same_length in
        absurd (omega arith)

    pub has_more : (n : ℕ) → n < length states → HasMore A n
    has_more n h = (names, (x.differ, x.reached), let s = same_length in omega arith)

    pub never_jams : cycle ≡ false → ¬ JamsSomewhere A jams
    never_jams e j =
        let i = In_get names j.0 (all_named j.0 j.1) in
        true≢false (sym j.3 ∙ x.clear e i.0 j.0 (let b : i.0 < length names = get_below names i.0 j.0 i.1 in omega arith) i.1 j.2)
