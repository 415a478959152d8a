-- The machine of classes is a twin.
use Rattle.std.proofs.Common.{◌≡◌, ℕ, zero, suc, ◌==◌, ◌<◌, ◌≤◌, Bool, true, false, cond, List, [], ◌∷◌, ◌⊎◌, map, length, Option, Some, None, option_map, slice_get, unwrap_or, refl, ap, sym, ◌∙◌, subst, inl, inr, arith}
use Rattle.std.specs.List.{AllByRecursion}
use Rattle.std.specs.Option.{option_map_or}
use Rattle.std.proofs.lemmas.Bool.{cases_lt}
use Rattle.std.proofs.lemmas.List.{map-id}
use Rattle.std.proofs.lemmas.Option.{slice_get-map}
use borrow.Author.Tests.{ne_eqb}
use Rattle.rl_types.specs.declared.numbers.Key.{Key}
use Rattle.rl_types.specs.declared.numbers.Letter.{Letter}
use Rattle.rl_explore.proofs.NumberLaws.{get_exists}
use Rattle.rl_fsm.specs.Reads.{takes, asks_at}
use Rattle.rl_run.specs.Machine.{Go, Machine}
use Rattle.rl_run.specs.Twin.{Agrees, ListR, GoR, IsTwin}
use Rattle.rl_run.specs.Classes.{InClass, class_go, LooksAlike, IsStable, AreClasses as AreNumberedClasses}
use Rattle.rl_run.proofs.Stable.{classes_stable}
use Rattle.rl_model.specs.Parts.{Context, letter_of}
use Rattle.rl_minimal.specs.declared.state.MinState.{MinState}
use Rattle.rl_minimal.specs.declared.state.MinEdge.{MinEdge}
use Rattle.rl_minimal.specs.Minimal.{Minimal, reads_of, at_state, kind_at, home_at}
use Rattle.rl_minimal.specs.Minimal as M
use Rattle.rl_minimal.specs.Machine.{edge_for, edges_at, entry_at, go_of, min_machine}
use Rattle.rl_minimal.specs.Sound.{IsMinimal}
use Rattle.rl_refine.specs.Classes.{AreClasses}
use Rattle.rl_min.specs.Numbering.{class_at, IsNumbering}
use Rattle.rl_min.specs.Merged.{number_at, merged_edge, merged_state, error_state, state_for, merged_of}
use Rattle.rl_min.proofs.ClassLaws.{within, same_alike, alike_same, picks, failed, alive, final_same}
use Rattle.rl_min.proofs.ReachedLaws.{states_reached}

-- ---- edges

pub reads_same : (numbers : List ℕ) (es : List MinEdge) → map reads_of (map (merged_edge numbers) es) ≡ map reads_of es
reads_same numbers [] = refl
reads_same numbers (e ∷ es) = ap (λ w. reads_of e ∷ w) (reads_same numbers es)

pub edge_merged : (numbers : List ℕ) (l : Letter) (es : List MinEdge) → edge_for l (map (merged_edge numbers) es) ≡ option_map (merged_edge numbers) (edge_for l es)
edge_merged numbers l [] = refl
edge_merged numbers l (e ∷ es) = by (edge_merged numbers l es) (takes l (reads_of e))
  where
    by : edge_for l (map (merged_edge numbers) es) ≡ option_map (merged_edge numbers) (edge_for l es) → (b : Bool) → cond b (Some (merged_edge numbers e)) (edge_for l (map (merged_edge numbers) es)) ≡ option_map (merged_edge numbers) (cond b (Some e) (edge_for l es))
    by rest true = refl
    by rest false = rest

tests_zero : (a b : ℕ) → 0 < a → 0 < b → (a == 0) ≡ (b == 0)
tests_zero a b h l = ne_eqb a 0 (λ e. absurd (omega arith)) ∙ sym (ne_eqb b 0 (λ e. absurd (omega arith)))

module _ (m : Minimal) (minimal : IsMinimal m) (classes numbers states : List ℕ) (alike : AreClasses m classes) (n : IsNumbering classes numbers states) where
  abbrev c : ℕ → ℕ
  c i = number_at numbers i

  abbrev L : Minimal
  L = merged_of m numbers states

  -- a state of a number
  abbrev pick : ℕ → ℕ
  pick p = class_at states p

  pub record IsPicked (p : ℕ) : Type 0 where
    pub state : MinState
    pub there : pick p < length m.states
    pub number : c (pick p) ≡ p
    pub was : slice_get m.states (pick p) ≡ Some state
    pub made : slice_get L.states p ≡ Some (merged_state numbers state)

  pub picked : (p : ℕ) → p < length states → IsPicked p
  picked p h =
      let j = get_exists states p h in
      let is : pick p ≡ j.0 = ap (λ o. unwrap_or o 0) j.1 in
      let r = picks m minimal classes numbers states alike n p j.0 j.1 in
      let s = get_exists m.states j.0 r.0 in record {
        state = s.0;
        there = subst (λ k. k < length m.states) (sym is) r.0;
        number = ap c is ∙ r.1;
        was = ap (slice_get m.states) is ∙ s.1;
        made = slice_get-map (state_for m.states numbers) states p ∙ ap (option_map (state_for m.states numbers)) j.1 ∙ ap (λ o. Some (option_map_or (merged_state numbers) o error_state)) s.1;
      }

  module _ (context : Context) where
    abbrev old : Machine ℕ
    old = min_machine m context

    abbrev less : Machine ℕ
    less = min_machine L context

    abbrev Inside : ℕ → Type 0
    Inside i = i < length m.states

    abbrev At : ℕ → ℕ → Type 0
    At = InClass old c Inside

    inside : (i : ℕ) → Inside i → IsPicked (c i)
    inside i h = picked (c i) (within m minimal classes numbers states alike n i h)

    numbered_classes : AreNumberedClasses old Inside c pick
    numbered_classes = record {
      sound = λ q p a b e. same_alike m minimal classes numbers states alike n context q p a b e;
      complete = λ q p a b s. alike_same m minimal classes numbers states alike n context q p a b s;
      picks = λ q h. let t = inside q h in (t.there, t.number);
    }

    stable : IsStable old c Inside pick
    stable = classes_stable old Inside c pick (states_reached m minimal context) numbered_classes

    pub looks : (i : ℕ) → Inside i → LooksAlike old c i (pick (c i))
    unfolding stable
    looks i h = stable.alike i h

    shows : {X : Type 0} (d : X) (f : MinState → X) (g : MinState → X) → ((s : MinState) → f (merged_state numbers s) ≡ g s) → (i : ℕ) → Inside i → at_state d f L.states (c i) ≡ at_state d g m.states (pick (c i))
    shows d f g same i h =
        let t = inside i h in
        ap (λ o. option_map_or f o d) t.made ∙ same t.state ∙ sym (ap (λ o. option_map_or g o d) t.was)

    all_agree : (xs : List ℕ) → AllByRecursion (Agrees old less (λ a. a) At) xs
    all_agree [] = tt
    all_agree (x ∷ xs) = ((λ k. refl, refl), all_agree xs)

    list_on : (xs ys : List ℕ) → ys ≡ xs → ListR old less (λ a. a) At xs ys
    list_on xs ys e = (e ∙ sym (map-id xs), all_agree xs)

    on : (P : ℕ → ℕ → Type 0) → ((i : ℕ) → Inside i → P i (c i)) → (i p : ℕ) → At i p → P i p
    on P f i p r = subst (P i) (sym r.0) (f i r.1)

    pub edges_are : (i : ℕ) → Inside i → edges_at L (c i) ≡ map (merged_edge numbers) (edges_at m (pick (c i)))
    edges_are i h =
        let t = inside i h in
        ap (λ o. option_map_or (λ (s : MinState). s.edges) o []) t.made ∙ sym (ap (λ o. map (merged_edge numbers) (option_map_or (λ (s : MinState). s.edges) o [])) t.was)

    go_merged : (o : Option MinEdge) → option_map go_of (option_map (merged_edge numbers) o) ≡ option_map (class_go old c) (option_map go_of o)
    go_merged None = refl
    go_merged (Some e) = refl

    find_is : (i : ℕ) (key : Key) (hold : ℕ) → Inside i → less.find (c i) key hold ≡ option_map (class_go old c) (old.find i key hold)
    find_is i key hold h =
        ap (λ es. option_map go_of (edge_for (letter_of key hold) es)) (edges_are i h) ∙ ap (option_map go_of) (edge_merged numbers (letter_of key hold) (edges_at m (pick (c i))))
        ∙ go_merged (edge_for (letter_of key hold) (edges_at m (pick (c i)))) ∙ (looks i h).find key hold

    gos : (i : ℕ) (key : Key) (hold : ℕ) → Inside i → (g : Option (Go ℕ)) → old.find i key hold ≡ g → GoR old less (λ a. a) At g (option_map (class_go old c) g)
    gos i key hold h None e = tt
    gos i key hold h (Some g) e = ((refl, ((states_reached m minimal context).steps i key hold g h e).0), (sym (map-id g.list), all_agree g.list))

    entry_is : (e : ℕ) → less.entry e ≡ c (old.entry e)
    entry_is zero = sym (failed m minimal classes numbers states alike n)
    entry_is (suc e) = ap (λ o. unwrap_or o 0) (slice_get-map c m.entries e) ∙ by (slice_get m.entries e)
      where
        by : (o : Option ℕ) → unwrap_or (option_map c o) 0 ≡ c (unwrap_or o 0)
        by None = sym (failed m minimal classes numbers states alike n)
        by (Some x) = refl

    zero_is : (i : ℕ) → Inside i → (c i == 0) ≡ (i == 0)
    zero_is zero h = ap (λ k. k == 0) (failed m minimal classes numbers states alike n)
    zero_is (suc i) h = let low : 0 < suc i = omega arith in tests_zero (c (suc i)) (suc i) (alive m minimal classes numbers states alike n context (suc i) h low) low

    pub merged_twin : IsTwin old less (λ a. a) At
    unfolding stable looks
    merged_twin = record {
      width = refl;
      key_of = λ character. refl;
      asked = λ i p key r. on (λ i p. less.asked p key ≡ old.asked i key) (λ i h. ap (λ es. asks_at key.0 (map reads_of es)) (edges_are i h) ∙ ap (asks_at key.0) (reads_same numbers (edges_at m (pick (c i)))) ∙ (looks i h).asked key) i p r;
      find = λ i p key hold r. on (λ i p. GoR old less (λ a. a) At (old.find i key hold) (less.find p key hold)) (λ i h. subst (GoR old less (λ a. a) At (old.find i key hold)) (sym (find_is i key hold h)) (gos i key hold h (old.find i key hold) refl)) i p r;
      from = λ i p r. on (λ i p. ListR old less (λ a. a) At (old.from i) (less.from p)) (λ i h. list_on (old.from i) (less.from (c i)) (shows [] (λ s. M.numbers s.from) (λ s. M.numbers s.from) (λ s. refl) i h ∙ (looks i h).from)) i p r;
      to = λ i p r. on (λ i p. ListR old less (λ a. a) At (old.to i) (less.to p)) (λ i h. list_on (old.to i) (less.to (c i)) (shows [] (λ s. M.numbers s.to) (λ s. M.numbers s.to) (λ s. refl) i h ∙ (looks i h).to)) i p r;
      error = λ i p r. on (λ i p. ListR old less (λ a. a) At (old.error i) (less.error p)) (λ i h. list_on (old.error i) (less.error (c i)) (shows [] (λ s. M.numbers s.error) (λ s. M.numbers s.error) (λ s. refl) i h ∙ (looks i h).error)) i p r;
      eof = λ i p r. on (λ i p. ListR old less (λ a. a) At (old.eof i) (less.eof p)) (λ i h. list_on (old.eof i) (less.eof (c i)) (shows [] (λ s. M.numbers s.eof) (λ s. M.numbers s.eof) (λ s. refl) i h ∙ (looks i h).eof)) i p r;
      token = λ i p r. on (λ i p. ListR old less (λ a. a) At (old.token i) (less.token p)) (λ i h. list_on (old.token i) (less.token (c i)) (shows [] (λ s. M.numbers s.token) (λ s. M.numbers s.token) (λ s. refl) i h ∙ (looks i h).token)) i p r;
      kind = λ i p r. on (λ i p. less.kind p ≡ old.kind i) (λ i h. shows 0 (λ s. s.kind) (λ s. s.kind) (λ s. refl) i h ∙ (looks i h).kind) i p r;
      final = λ i p r. on (λ i p. less.final p ≡ old.final i) (λ i h. final_same m minimal classes numbers states alike n context i h) i p r;
      home = λ i p r. on (λ i p. At (old.home i) (less.home p)) (λ i h. (home_of i h, ((states_reached m minimal context).homes i h).0)) i p r;
      failed = (sym (failed m minimal classes numbers states alike n), (states_reached m minimal context).failed);
      is_failed = λ i p r. on (λ i p. less.is_failed p ≡ old.is_failed i) (λ i h. zero_is i h) i p r;
      condition_name = λ k. refl;
      entry_name = λ e. refl;
      entry = λ e. (entry_is e, (states_reached m minimal context).entries e);
    }
      where
        home_of : (i : ℕ) → Inside i → less.home (c i) ≡ c (old.home i)
        home_of i h =
            let t = inside i h in
            ap (λ o. option_map_or (λ (s : MinState). s.home) o 0) t.made ∙ ap c (sym (ap (λ o. option_map_or (λ (s : MinState). s.home) o 0) t.was)) ∙ (looks i h).home
