-- The numbers of a walk's places are the canonical ones.
use Rattle.std.proofs.Common.{◌≡◌, ℕ, zero, suc, ◌<◌, Bool, true, false, cond, not, ◌&&◌, ◌||◌, List, [], ◌∷◌, ◌++◌, ◌⊎◌, map, length, Some, None, nat_eq, refl, ap, sym, ◌∙◌, subst, inl, inr, arith, append_assoc, append-nil}
use Rattle.std.specs.List.{filter, flat_map, list_any, range_with_len}
use Rattle.std.specs.Option.{option_map_or}
use Rattle.std.proofs.lemmas.List.{map-append, length-map}
use Rattle.std.proofs.lemmas.List.Elements.{filter_agree}
use Rattle.std.proofs.lemmas.List.FromFn.{length-map-range_with_len}
use borrow.Author.Tests.{eqb-true, eq-eqb}
use Rattle.rl_sets.specs.Sets.{In}
use Rattle.rl_sets.proofs.SetLaws.{In-map, In-map_from, In-append_cases, any_true, any_from}
use Rattle.rl_automata.specs.Auto.{on_part}
use Rattle.rl_explore.proofs.NumberLaws.{get_In, get_exists}
use Rattle.rl_fsm.specs.declared.root.EntryFsm.{EntryFsm}
use Rattle.rl_fsm.specs.declared.edge.Edge.{Edge}
use Rattle.rl_fsm.specs.declared.state.State.{State}
use Rattle.rl_run.specs.Numbers.{firsts}
use Rattle.rl_root.specs.Roots.{RootState, IsBuilt}
use Rattle.rl_minimal.specs.declared.state.MinState.{MinState}
use Rattle.rl_minimal.specs.declared.state.MinEdge.{MinEdge}
use Rattle.rl_minimal.specs.Minimal.{Minimal}
use Rattle.rl_reach.specs.declared.place.Place.{Place}
use Rattle.rl_reach.specs.Places.{with_places, number_in}
use Rattle.rl_reach.specs.Walks.{AreSound, IsWalk, start_of, starts_of, target_of, targets_of, is_final, plain_first, state_of}
use Rattle.rl_reach.specs.States.{min_edge, state_for}
use Rattle.rl_reach.specs.Canonical.{targets_at, AreCanonical, IsMachineOf, IsUnmerged}
use Rattle.rl_reach.specs.Canonical as C
use Rattle.rl_reach.proofs.PlaceLaws.{place_cases, halves_in, halves_length, number_at, number_apart, numbers_count}
use Rattle.rl_reach.proofs.WalkLaws.{met_in}
use Rattle.rl_reach.proofs.StateLaws.{made_of, class_of, final_is, met_differ, places_apart, built_in, in_built, shows, number_positive}
use Rattle.rl_reach.proofs.TwinLaws.{made_twin}

-- ---- filters

both_filters : (p q : ℕ → Bool) (xs : List ℕ) → filter p (filter q xs) ≡ filter (λ x. q x && p x) xs
both_filters p q [] = refl
both_filters p q (x ∷ xs) =
    elim (q x) as (λ b. filter p (cond b (x ∷ filter q xs) (filter q xs)) ≡ cond (b && p x) (x ∷ filter (λ x. q x && p x) xs) (filter (λ x. q x && p x) xs)) [
      | true ↦ elim (p x) as (λ b. cond b (x ∷ filter p (filter q xs)) (filter p (filter q xs)) ≡ cond b (x ∷ filter (λ x. q x && p x) xs) (filter (λ x. q x && p x) xs)) [
        | true ↦ ap (λ w. x ∷ w) (both_filters p q xs)
        | false ↦ both_filters p q xs
      ]
      | false ↦ both_filters p q xs
    ]

any_last : (f : ℕ → Bool) (xs : List ℕ) (y : ℕ) → list_any f (xs ++ y ∷ []) ≡ (list_any f xs || f y)
any_last f [] y = last (f y)
  where
    last : (b : Bool) → (b || false) ≡ b
    last true = refl
    last false = refl
any_last f (x ∷ xs) y = elim (f x) as (λ b. (b || list_any f (xs ++ y ∷ [])) ≡ ((b || list_any f xs) || f y)) [
  | true ↦ refl
  | false ↦ any_last f xs y
]

filter_within : (c : Place → ℕ) (test : ℕ → Bool) (other : Place → Bool) (xs : List Place) → ((p : Place) → In p xs → test (c p) ≡ other p) → filter test (map c xs) ≡ map c (filter other xs)
filter_within c test other [] h = refl
filter_within c test other (x ∷ xs) h =
    ap (λ b. cond b (c x ∷ filter test (map c xs)) (filter test (map c xs))) (h x (inl refl))
    ∙ (elim (other x) as (λ b. cond b (c x ∷ filter test (map c xs)) (filter test (map c xs)) ≡ map c (cond b (x ∷ filter other xs) (filter other xs))) [
      | true ↦ ap (λ w. c x ∷ w) (filter_within c test other xs (λ p i. h p (inr i)))
      | false ↦ filter_within c test other xs (λ p i. h p (inr i))
    ])

-- ---- first places

-- not among the listed
abbrev fresh : List ℕ → ℕ → Bool
fresh listed y = not (list_any (λ x. nat_eq x y) listed)

module _ (c : Place → ℕ) (P : Place → Type 0) (apart : (p q : Place) → P p → P q → c p ≡ c q → p ≡ q) where
  listed_there : (acc : List Place) (p : Place) → In p acc → fresh (map c acc) (c p) ≡ false
  listed_there acc p h = ap not (any_true (λ x. nat_eq x (c p)) (c p) (map c acc) (In-map c p acc h) (eq-eqb (c p) (c p) refl))

  fresh_there : (acc : List Place) (p : Place) → ((q : Place) → In q acc → P q) → P p → ¬ In p acc → fresh (map c acc) (c p) ≡ true
  fresh_there acc p a b n = by (list_any (λ x. nat_eq x (c p)) (map c acc)) refl
    where
      by : (t : Bool) → list_any (λ x. nat_eq x (c p)) (map c acc) ≡ t → not t ≡ true
      by true e =
          let x = any_from (λ x. nat_eq x (c p)) (map c acc) e in
          let q = In-map_from c x.0 acc x.1 in
          let same : q.0 ≡ p = apart q.0 p (a q.0 q.1) b (q.2 ∙ eqb-true x.0 (c p) x.2) in
          absurd (n (subst (λ w. In w acc) same q.1))
      by false e = refl

  -- what is listed is no later first place
  skips : (acc : List Place) (p : Place) (ys : List ℕ) → In p acc → filter (fresh (map c acc)) (filter (λ y. not (nat_eq (c p) y)) ys) ≡ filter (fresh (map c acc)) ys
  skips acc p ys h = both_filters (fresh (map c acc)) (λ y. not (nat_eq (c p) y)) ys ∙ filter_agree (λ y. not (nat_eq (c p) y) && fresh (map c acc) y) (fresh (map c acc)) agree ys
    where
      at : (y : ℕ) (b : Bool) → nat_eq (c p) y ≡ b → (not b && fresh (map c acc) y) ≡ fresh (map c acc) y
      at y true e = sym (ap (fresh (map c acc)) (sym (eqb-true (c p) y e)) ∙ listed_there acc p h)
      at y false e = refl

      agree : (y : ℕ) → (not (nat_eq (c p) y) && fresh (map c acc) y) ≡ fresh (map c acc) y
      agree y = at y (nat_eq (c p) y) refl

  grows : (acc : List Place) (p : Place) (ys : List ℕ) → filter (fresh (map c acc)) (filter (λ y. not (nat_eq (c p) y)) ys) ≡ filter (fresh (map c acc ++ c p ∷ [])) ys
  grows acc p ys = both_filters (fresh (map c acc)) (λ y. not (nat_eq (c p) y)) ys ∙ filter_agree (λ y. not (nat_eq (c p) y) && fresh (map c acc) y) (fresh (map c acc ++ c p ∷ [])) agree ys
    where
      either : (a b : Bool) → (not b && not a) ≡ not (a || b)
      either true true = refl
      either true false = refl
      either false true = refl
      either false false = refl

      agree : (y : ℕ) → (not (nat_eq (c p) y) && fresh (map c acc) y) ≡ fresh (map c acc ++ c p ∷ []) y
      agree y = either (list_any (λ x. nat_eq x y) (map c acc)) (nat_eq (c p) y) ∙ ap not (sym (any_last (λ x. nat_eq x y) (map c acc) (c p)))

  firsts_from : (xs acc : List Place) → ((q : Place) → In q acc → P q) → ((q : Place) → In q xs → P q) → map c (with_places acc xs) ≡ map c acc ++ filter (fresh (map c acc)) (firsts (map c xs))
  firsts_from [] acc a b = sym (append-nil (map c acc))
  firsts_from (p ∷ xs) acc a b = elim (place_cases acc p) [
    | inl k ↦
        ap (λ w. map c (with_places w xs)) k.0 ∙ firsts_from xs acc a (λ q i. b q (inr i))
        ∙ ap (λ w. map c acc ++ w) (sym (skips acc p (firsts (map c xs)) k.1) ∙ ap (λ t. cond t (c p ∷ later) later) (sym (listed_there acc p k.1)))
    | inr k ↦
        ap (λ w. map c (with_places w xs)) k.0 ∙ firsts_from xs (acc ++ p ∷ []) more (λ q i. b q (inr i))
        ∙ ap (λ w. w ++ filter (fresh w) (firsts (map c xs))) (map-append c acc (p ∷ []))
        ∙ append_assoc (map c acc) (c p ∷ []) (filter (fresh (map c acc ++ c p ∷ [])) (firsts (map c xs)))
        ∙ ap (λ w. map c acc ++ c p ∷ w) (sym (grows acc p (firsts (map c xs))))
        ∙ ap (λ t. map c acc ++ cond t (c p ∷ later) later) (sym (fresh_there acc p a (b p (inl refl)) k.1))
  ]
    where
      later : List ℕ
      later = filter (fresh (map c acc)) (filter (λ y. not (nat_eq (c p) y)) (firsts (map c xs)))

      more : (q : Place) → In q (acc ++ p ∷ []) → P q
      more q i = by (In-append_cases q acc (p ∷ []) i)
        where
          by : In q acc ⊎ In q (p ∷ []) → P q
          by (inl j) = a q j
          by (inr (inl e)) = subst P e (b p (inl refl))
          by (inr (inr z)) = absurd z

  all_pass : (xs : List ℕ) → filter (fresh []) xs ≡ xs
  all_pass [] = refl
  all_pass (x ∷ xs) = ap (λ w. x ∷ w) (all_pass xs)

  pub firsts_of : (xs : List Place) → ((q : Place) → In q xs → P q) → map c (with_places [] xs) ≡ firsts (map c xs)
  firsts_of xs b = firsts_from xs [] (λ q z. absurd z) b ∙ all_pass (firsts (map c xs))

-- ---- the order

map-flat_map : (c : Place → ℕ) (f : Place → List Place) (g : ℕ → List ℕ) (xs : List Place) → ((p : Place) → In p xs → g (c p) ≡ map c (f p)) → map c (flat_map f xs) ≡ flat_map g (map c xs)
map-flat_map c f g [] h = refl
map-flat_map c f g (x ∷ xs) h =
    map-append c (f x) (flat_map f xs) ∙ (λ i. (sym (h x (inl refl)) i) ++ map-flat_map c f g xs (λ p j. h p (inr j)) i)

module _ (entries : List EntryFsm) (sound : AreSound entries) (met : List Place) (w : IsWalk entries met met) where
  abbrev places : List Place
  places = plain_first entries met

  abbrev M : Minimal
  M = made_of entries met

  abbrev order : List ℕ
  order = map (number_in places) met

  apart : (p q : Place) → In p met → In q met → number_in places p ≡ number_in places q → p ≡ q
  apart p q h i e = number_apart places p q (halves_in (is_final entries) met p h) (halves_in (is_final entries) met q i) e

  edge_targets : (e : ℕ) (es : List Edge) → map (λ (x : MinEdge). x.target) (map (min_edge places e) es) ≡ map (number_in places) (map (target_of entries e) es)
  edge_targets e [] = refl
  edge_targets e (x ∷ es) = ap (λ r. number_in places (record { entry = e; state = x.target }) ∷ r) (edge_targets e es)

  targets_are : (p : Place) → In p met → targets_at M (number_in places p) ≡ map (number_in places) (targets_of entries p)
  targets_are p h =
      shows entries sound met w (λ o. map (number_in places) (map (target_of entries p.entry) (on_part [] (λ (s : State). s.edges) o))) (λ o. map (λ (x : MinEdge). x.target) (option_map_or (λ (s : MinState). s.edges) o [])) p.entry p.state (λ s. edge_targets p.entry s.edges)
      (w.reached p h)

  order_met : order ≡ firsts (M.entries ++ flat_map (targets_at M) order)
  order_met =
      ap (map (number_in places)) w.walked
      ∙ firsts_of (number_in places) (λ p. In p met) apart (starts_of entries ++ flat_map (targets_of entries) met) (met_in entries sound met w)
      ∙ ap firsts (map-append (number_in places) (starts_of entries) (flat_map (targets_of entries) met)
      ∙ ap (λ r. M.entries ++ r) (map-flat_map (number_in places) (targets_of entries) (targets_at M) met targets_are))

  final_same : (p : Place) → In p met → C.is_final M (number_in places p) ≡ is_final entries p
  final_same p h = final_is (is_final entries) met (met_differ entries sound met w) p h

  order_counted : filter (λ i. not (C.is_final M i)) order ++ filter (C.is_final M) order ≡ range_with_len 1 (length order)
  order_counted =
      (λ i. filter_within (number_in places) (λ k. not (C.is_final M k)) (λ p. not (is_final entries p)) met (λ p h. ap not (final_same p h)) i
      ++ filter_within (number_in places) (C.is_final M) (is_final entries) met final_same i)
      ∙ sym (map-append (number_in places) (filter (λ p. not (is_final entries p)) met) (filter (is_final entries) met)) ∙ numbers_count places (places_apart entries sound met w)
      ∙ ap (range_with_len 1) (halves_length (is_final entries) met ∙ sym (length-map met (number_in places)))

  canonical : AreCanonical M order
  canonical = record {
    met = order_met;
    counted = order_counted;
    whole = ap suc (length-map places (state_for entries places) ∙ halves_length (is_final entries) met ∙ sym (length-map met (number_in places)));
  }

  class_apart : (q p : RootState) → IsBuilt entries q → IsBuilt entries p → class_of entries met q ≡ class_of entries met p → q ≡ p
  class_apart None None a b e = refl
  class_apart None (Some (f, j)) a b e = let k = number_positive entries sound met w f j b in let n : number_in places (record { entry = f; state = j }) ≡ suc k.0 = k.1 in absurd (omega arith)
  class_apart (Some (e, i)) None a b q = let k = number_positive entries sound met w e i a in let n : number_in places (record { entry = e; state = i }) ≡ suc k.0 = k.1 in absurd (omega arith)
  class_apart (Some (e, i)) (Some (f, j)) a b q =
      ap (state_of entries) (number_apart places (record { entry = e; state = i }) (record { entry = f; state = j }) (built_in entries sound met w e i a) (built_in entries sound met w f j b) q)

  class_used : (i : ℕ) → i < length M.states → (q : RootState) × IsBuilt entries q × (class_of entries met q ≡ i)
  class_used zero h = (None, tt, refl)
  class_used (suc k) h =
      let n : length (map (state_for entries places) places) ≡ length places = length-map places (state_for entries places) in
      let p = get_exists places k (omega arith) in
      (state_of entries p.0, in_built entries sound met w p.0 (get_In places k p.0 p.1), number_at places k p.0 (places_apart entries sound met w) p.1)

  pub made_is : IsMachineOf entries M
  made_is = record {
    class = class_of entries met;
    twin = λ context. made_twin entries sound met w context;
    used = class_used;
    starts = length-map (starts_of entries) (number_in places) ∙ length-map-range_with_len (start_of entries) 1 (length entries);
    order = order;
    canonical = canonical;
  }

  pub made_right : (is : IsMachineOf entries M) × IsUnmerged entries M is
  unfolding made_is
  made_right = (made_is, class_apart)
