-- States that stay together for good are alike, and alike states stay together.
use Rattle.std.proofs.Common.{◌≡◌, ℕ, zero, suc, ◌<◌, ◌≤◌, List, [], ◌∷◌, length, Option, Some, None, option_map, refl, sym, ap, ◌∙◌, subst, arith, slice_get}
use Rattle.std.specs.Option.{option_map_or}
use native.Mathlib.Decide.{dec_lt}
use Rattle.rl_types.specs.declared.numbers.ActionId.{ActionId}
use Rattle.rl_types.specs.declared.numbers.Key.{Key}
use Rattle.rl_types.specs.declared.numbers.Letter.{Letter}
use Rattle.rl_sets.specs.Sets.{In}
use Rattle.rl_fsm.proofs.PieceLaws.{All-In}
use Rattle.rl_run.specs.Machine.{Go, Machine}
use Rattle.rl_run.specs.Classes.{ShowSame, BothStep, AgreeAlong, Agree, AreAlike}
use Rattle.rl_model.specs.Parts.{Context}
use Rattle.rl_minimal.specs.declared.state.MinState.{MinState}
use Rattle.rl_minimal.specs.declared.state.MinEdge.{MinEdge}
use Rattle.rl_minimal.specs.Minimal.{Minimal, numbers, at_state, kind_at, home_at}
use Rattle.rl_minimal.specs.Machine.{edge_for, go_of, edges_at, min_machine}
use Rattle.rl_minimal.specs.Sound.{IsEdge, IsMinimal}
use Rattle.rl_refine.specs.Classes.{class_in, AreClasses}
use Rattle.rl_refine.specs.Covers.{led_by, led_on}
use Rattle.rl_refine.specs.Splits.{list_at, StayTogether, AreSplit, AreCoarse}
use Rattle.rl_refine.proofs.ListLaws.{numbers_same}
use Rattle.rl_refine.proofs.EdgeLaws.{edge_from}
use Rattle.rl_refine.proofs.SplitLaws.{same_first, first_shared}

numbers_told : (f : MinState → List ActionId) (o : Option MinState) → numbers (option_map_or f o []) ≡ option_map_or (λ s. numbers (f s)) o []
numbers_told f None = refl
numbers_told f (Some s) = refl

get_there : {X : Type 0} (xs : List X) (i : ℕ) → i < length xs → (x : X) × (slice_get xs i ≡ Some x)
get_there [] i h = absurd (omega arith)
get_there (x ∷ xs) zero h = (x, refl)
get_there (x ∷ xs) (suc i) h = get_there xs i (omega arith)

go_list : (x y : Go ℕ) → Some x ≡ Some y → x.list ≡ y.list
go_list x y e = cc

go_target : (x y : Go ℕ) → Some x ≡ Some y → x.target ≡ y.target
go_target x y e = cc

none_go : (x : Go ℕ) → None ≡ Some x → ⊥
none_go x e = cc

module _ (m : Minimal) (sound : IsMinimal m) where
  -- ---- homes, and where edges lead

  pub record IsAtHome (i : ℕ) : Type 0 where
    pub there : home_at m.states i < length m.states
    pub own : home_at m.states (home_at m.states i) ≡ home_at m.states i

  plain_home : (t : ℕ) → t < length m.states → kind_at m.states t ≡ 0 → home_at m.states t ≡ 0
  plain_home t h k =
      let p = get_there m.states t h in
      ap (λ o. option_map_or (λ (s : MinState). s.home) o 0) p.1
      ∙ (sound.states t p.0 p.1).home.plain (sym (ap (λ o. option_map_or (λ (s : MinState). s.kind) o 0) p.1) ∙ k)

  first_there : 0 < length m.states
  first_there = let c : 2 ≤ length m.states = sound.counts.states in omega arith

  first_plain : kind_at m.states 0 ≡ 0
  first_plain =
      let p = get_there m.states 0 first_there in
      ap (λ o. option_map_or (λ (s : MinState). s.kind) o 0) p.1 ∙ (sound.error p.0 p.1).kind

  at_home : (i : ℕ) → i < length m.states → IsAtHome i
  at_home i h =
      let p = get_there m.states i h in
      let r = (sound.states i p.0 p.1).home in
      let w : p.0.home ≡ home_at m.states i = sym (ap (λ o. option_map_or (λ (s : MinState). s.home) o 0) p.1) in
      elim (dec_lt 0 p.0.kind) [
        | yes l ↦ record { there = subst (λ x. x < length m.states) w (r.there l); own = subst (λ x. home_at m.states x ≡ x) w (r.own l) }
        | no n ↦
            let z : p.0.kind ≡ 0 = omega arith in
            let e : 0 ≡ home_at m.states i = sym (r.plain z) ∙ w in
            record {
              there = subst (λ x. x < length m.states) e first_there;
              own = subst (λ x. home_at m.states x ≡ x) e (plain_home 0 first_there first_plain);
            }
      ]

  pub record IsEdgeOf (i : ℕ) (e : MinEdge) : Type 0 where
    pub there : e.target < length m.states
    pub home : home_at m.states e.target ≡ home_at m.states i

  edge_of : (i : ℕ) → i < length m.states → (e : MinEdge) → In e (edges_at m i) → IsEdgeOf i e
  edge_of i h e j =
      let p = get_there m.states i h in
      let r = sound.states i p.0 p.1 in
      let k : In e p.0.edges = subst (In e) (ap (λ o. option_map_or (λ (s : MinState). s.edges) o []) p.1) j in
      let t = (All-In (IsEdge m.states p.0) p.0.edges e r.edges.each k).target in
      let w : p.0.home ≡ home_at m.states i = sym (ap (λ o. option_map_or (λ (s : MinState). s.home) o 0) p.1) in
      record {
        there = t.there;
        home = (elim (dec_lt 0 p.0.kind) [
          | yes l ↦ t.stays.same_home l
          | no n ↦ let z : p.0.kind ≡ 0 = omega arith in plain_home e.target t.there (t.stays.plain z) ∙ sym (r.home.plain z)
        ]) ∙ w;
      }

  edge_on : (i : ℕ) → i < length m.states → (l : Letter) (e : MinEdge) → edge_for l (edges_at m i) ≡ Some e → IsEdgeOf i e
  edge_on i h l e q = edge_of i h e (edge_from l (edges_at m i) e q).0

  module _ (context : Context) where
    abbrev M : Machine ℕ
    M = min_machine m context

    lists_same : (f : MinState → List ActionId) (i j : ℕ) → at_state [] (λ s. numbers (f s)) m.states i ≡ at_state [] (λ s. numbers (f s)) m.states j → list_at f m i ≡ list_at f m j
    lists_same f i j e = numbers_same (list_at f m i) (list_at f m j) (numbers_told f (slice_get m.states i) ∙ e ∙ sym (numbers_told f (slice_get m.states j)))

    lists_told : (f : MinState → List ActionId) (i j : ℕ) → list_at f m i ≡ list_at f m j → at_state [] (λ s. numbers (f s)) m.states i ≡ at_state [] (λ s. numbers (f s)) m.states j
    lists_told f i j e = sym (numbers_told f (slice_get m.states i)) ∙ ap numbers e ∙ numbers_told f (slice_get m.states j)

    -- ---- alike states stay together

    module _ (cs : List ℕ) (coarse : AreCoarse m cs) where
      led_alike : (i j : ℕ) → i < length m.states → j < length m.states → AreAlike M i j → (l : Letter) → led_on cs l (edges_at m i) ≡ led_on cs l (edges_at m j)
      led_alike i j h k a l = by (edge_for l (edges_at m i)) refl (edge_for l (edges_at m j)) refl (λ word. a.0 ((record { 0 = l.key }, l.truths) ∷ word))
        where
          by : (o : Option MinEdge) → edge_for l (edges_at m i) ≡ o → (p : Option MinEdge) → edge_for l (edges_at m j) ≡ p
              → ((word : List (Key × ℕ)) → BothStep M (AgreeAlong M word) (option_map go_of (edge_for l (edges_at m i))) (option_map go_of (edge_for l (edges_at m j))))
              → led_on cs l (edges_at m i) ≡ led_on cs l (edges_at m j)
          by None q None r b = ap (option_map (led_by cs)) q ∙ sym (ap (option_map (led_by cs)) r)
          by None q (Some f) r b = absurd (subst (λ o. BothStep M (AgreeAlong M []) (option_map go_of o) (Some (go_of f))) q (subst (λ o. BothStep M (AgreeAlong M []) (option_map go_of (edge_for l (edges_at m i))) (option_map go_of o)) r (b [])))
          by (Some e) q None r b = absurd (subst (λ o. BothStep M (AgreeAlong M []) (option_map go_of o) None) q (subst (λ o. BothStep M (AgreeAlong M []) (option_map go_of (edge_for l (edges_at m i))) (option_map go_of o)) r (b [])))
          by (Some e) q (Some f) r b =
              let both : (word : List (Key × ℕ)) → (numbers f.list ≡ numbers e.list) × AgreeAlong M word e.target f.target =
              λ word. subst (λ o. BothStep M (AgreeAlong M word) (option_map go_of o) (Some (go_of f))) q (subst (λ o. BothStep M (AgreeAlong M word) (option_map go_of (edge_for l (edges_at m i))) (option_map go_of o)) r (b word)) in
              let s = edge_on i h l e q in
              let t = edge_on j k l f r in
              let homes : Agree M (home_at m.states e.target) (home_at m.states f.target) =
              subst (λ x. Agree M x (home_at m.states f.target)) (sym s.home) (subst (Agree M (home_at m.states i)) (sym t.home) a.1) in
              let c = coarse.alike context e.target f.target s.there t.there (λ word. (both word).1, homes) in
              ap (option_map (led_by cs)) q ∙ (λ n. Some (record { target = c n; list = sym (both []).0 n })) ∙ sym (ap (option_map (led_by cs)) r)

      pub alike_stay : (i j : ℕ) → i < length m.states → j < length m.states → AreAlike M i j → StayTogether m cs i j
      alike_stay i j h k a =
          let s : ShowSame M i j = a.0 [] in
          let p = at_home i h in
          let q = at_home j k in
          record {
            class = coarse.alike context i j h k a;
            from = lists_same (λ s. s.from) i j (sym s.from);
            to = lists_same (λ s. s.to) i j (sym s.to);
            eof = lists_same (λ s. s.eof) i j (sym s.eof);
            error = lists_same (λ s. s.error) i j (sym s.error);
            token = lists_same (λ s. s.token) i j (sym s.token);
            is_error = sym s.is_failed;
            verdict = sym s.final;
            kind = sym s.kind;
            home = coarse.alike context (home_at m.states i) (home_at m.states j) p.there q.there
                (a.1, subst (λ x. Agree M x (home_at m.states (home_at m.states j))) (sym p.own) (subst (Agree M (home_at m.states i)) (sym q.own) a.1));
            steps = record { asked = λ key. sym (s.asked (record { 0 = key })); led = led_alike i j h k a };
          }

    -- ---- states that stay together for good are alike

    module _ (cs : List ℕ) (stays : (i j : ℕ) → i < length m.states → j < length m.states → class_in cs i ≡ class_in cs j → StayTogether m cs i j) where
      shows : (i j : ℕ) → StayTogether m cs i j → ShowSame M i j
      shows i j s = record {
        asked = λ key. sym (s.steps.asked key.0);
        from = sym (lists_told (λ s. s.from) i j s.from);
        to = sym (lists_told (λ s. s.to) i j s.to);
        error = sym (lists_told (λ s. s.error) i j s.error);
        eof = sym (lists_told (λ s. s.eof) i j s.eof);
        token = sym (lists_told (λ s. s.token) i j s.token);
        kind = sym s.kind;
        final = sym s.verdict;
        is_failed = sym s.is_error;
      }

      along : (word : List (Key × ℕ)) (i j : ℕ) → i < length m.states → j < length m.states → class_in cs i ≡ class_in cs j → AgreeAlong M word i j
      along [] i j h k e = shows i j (stays i j h k e)
      along (l ∷ word) i j h k e =
          step (along word) (record { key = l.0.0; truths = l.1 }) ((stays i j h k e).steps.led (record { key = l.0.0; truths = l.1 }))
        where
          step : ((a b : ℕ) → a < length m.states → b < length m.states → class_in cs a ≡ class_in cs b → AgreeAlong M word a b)
              → (c : Letter) → led_on cs c (edges_at m i) ≡ led_on cs c (edges_at m j)
              → BothStep M (AgreeAlong M word) (option_map go_of (edge_for c (edges_at m i))) (option_map go_of (edge_for c (edges_at m j)))
          step later c led = by (edge_for c (edges_at m i)) refl (edge_for c (edges_at m j)) refl led
            where
              by : (o : Option MinEdge) → edge_for c (edges_at m i) ≡ o → (p : Option MinEdge) → edge_for c (edges_at m j) ≡ p
                  → option_map (led_by cs) (edge_for c (edges_at m i)) ≡ option_map (led_by cs) (edge_for c (edges_at m j))
                  → BothStep M (AgreeAlong M word) (option_map go_of (edge_for c (edges_at m i))) (option_map go_of (edge_for c (edges_at m j)))
              by o q p r d =
                  subst (λ x. BothStep M (AgreeAlong M word) (option_map go_of x) (option_map go_of (edge_for c (edges_at m j)))) (sym q)
                  (subst (λ x. BothStep M (AgreeAlong M word) (option_map go_of o) (option_map go_of x)) (sym r)
                  (both o q p r (sym (ap (option_map (led_by cs)) q) ∙ d ∙ ap (option_map (led_by cs)) r)))
                where
                  both : (o : Option MinEdge) → edge_for c (edges_at m i) ≡ o → (p : Option MinEdge) → edge_for c (edges_at m j) ≡ p
                      → option_map (led_by cs) o ≡ option_map (led_by cs) p → BothStep M (AgreeAlong M word) (option_map go_of o) (option_map go_of p)
                  both None q None r d = tt
                  both None q (Some f) r d = absurd (none_go (led_by cs f) d)
                  both (Some e) q None r d = absurd (none_go (led_by cs e) (sym d))
                  both (Some e) q (Some f) r d = (
                    sym (go_list (led_by cs e) (led_by cs f) d),
                    later e.target f.target (edge_on i h c e q).there (edge_on j k c f r).there (go_target (led_by cs e) (led_by cs f) d),
                  )

      pub stay_alike : (i j : ℕ) → i < length m.states → j < length m.states → class_in cs i ≡ class_in cs j → AreAlike M i j
      stay_alike i j h k e = (
        λ word. along word i j h k e,
        λ word. along word (home_at m.states i) (home_at m.states j) (at_home i h).there (at_home j k).there (stays i j h k e).home,
      )

  -- ---- a split of coarse classes

  module _ (old new : List ℕ) (coarse : AreCoarse m old) (split : AreSplit m old new) where
    within : (i : ℕ) → i < length m.states → class_in new i < length m.states
    within i h = let w = (split.first i h).within in omega (arith, w, h)

    pub split_coarse : AreCoarse m new
    split_coarse = record {
      whole = split.whole;
      first = λ i h. (split.first i h).within;
      own = λ i h. same_first m old (class_in new i) i (class_in new (class_in new i)) (class_in new i) (split.first (class_in new i) (within i h)) (split.first i h) (split.first i h).together;
      alike = λ context i j h k a. same_first m old i j (class_in new i) (class_in new j) (split.first i h) (split.first j k) (alike_stay context old coarse i j h k a);
    }

    -- classes that do not split are those of alike states
    pub split_classes : new ≡ old → AreClasses m new
    split_classes e = record {
      whole = split.whole;
      alike = λ context i j h k. (
        λ s. stay_alike context new stays i j h k s,
        λ a. split_coarse.alike context i j h k a,
      );
      first = λ i h. (split.first i h).within;
      own = split_coarse.own;
    }
      where
        stays : (i j : ℕ) → i < length m.states → j < length m.states → class_in new i ≡ class_in new j → StayTogether m new i j
        stays i j h k s = subst (λ c. StayTogether m c i j) (sym e) (first_shared m old i j (class_in new i) (class_in new j) (split.first i h) (split.first j k) s)
