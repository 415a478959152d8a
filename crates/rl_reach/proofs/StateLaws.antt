-- The states of a walk's places.
use Rattle.std.proofs.Common.{◌≡◌, ℕ, suc, ◌+◌, ◌<◌, ◌≤◌, Bool, true, false, not, List, [], ◌∷◌, ◌++◌, map, length, Option, Some, None, option_map, slice_get, nat_le, refl, ap, sym, ◌∙◌, subst, inl, inr, arith, true≢false}
use Rattle.std.specs.List.{filter}
use Rattle.std.proofs.lemmas.Bool.{cases_lt}
use Rattle.std.proofs.lemmas.Option.{slice_get-map}
use borrow.Author.Tests.{le-leb, leb-true}
use Rattle.rl_types.specs.declared.numbers.ActionId.{ActionId}
use Rattle.rl_sets.specs.Sets.{In}
use Rattle.rl_sets.proofs.SetLaws.{In-filter, In-filter_from}
use Rattle.rl_automata.specs.Auto.{on_part}
use Rattle.rl_automata.specs.Refused.{AreDifferent}
use Rattle.rl_automata.proofs.Congruence.{some_in}
use Rattle.rl_explore.proofs.NumberLaws.{get_below, get_front, get_In, In_get, get_exists}
use Rattle.rl_fsm.specs.declared.root.EntryFsm.{EntryFsm}
use Rattle.rl_fsm.specs.declared.state.State.{State}
use Rattle.rl_fsm.specs.Graphs.{state_at}
use Rattle.rl_fsm.specs.Roots.{graph_at}
use Rattle.rl_root.specs.Roots.{RootState, IsBuilt}
use Rattle.rl_minimal.specs.declared.state.MinState.{MinState}
use Rattle.rl_minimal.specs.Minimal.{Minimal, numbers}
use Rattle.rl_reach.specs.declared.place.Place.{Place}
use Rattle.rl_reach.specs.Places.{with_places, number_in}
use Rattle.rl_reach.specs.Walks.{AreSound, IsWalk, starts_of, is_final, plain_first, state_of}
use Rattle.rl_reach.specs.States.{listed, min_state, error_state, state_for, states_for}
use Rattle.rl_reach.proofs.PlaceLaws.{different_filter, different_stay, halves_differ, halves_in, halves_from, number_there, number_at}
use Rattle.rl_reach.proofs.WalkLaws.{entry_from, reach_there, walk_differs, all_met}

-- the machine of these places, in the order in which they were met
abbrev pub made_of : List EntryFsm → List Place → Minimal
made_of entries met = record {
  states = states_for entries (plain_first entries met);
  entries = map (number_in (plain_first entries met)) (starts_of entries);
  first_final = length (filter (λ p. not (is_final entries p)) met) + 1;
}

-- the number of each state that is met
abbrev pub class_of : List EntryFsm → List Place → RootState → ℕ
class_of entries met None = 0
class_of entries met (Some (e, i)) = number_in (plain_first entries met) (record { entry = e; state = i })

pub numbers_same : (xs : List ℕ) → numbers (listed xs) ≡ xs
numbers_same [] = refl
numbers_same (x ∷ xs) = ap (λ w. x ∷ w) (numbers_same xs)

-- a list of actions is told by its numbers
pub numbers_tell : (list : List ActionId) (xs : List ℕ) → numbers list ≡ xs → list ≡ listed xs
numbers_tell list xs e = back list ∙ ap listed e
  where
    back : (list : List ActionId) → list ≡ listed (numbers list)
    back [] = refl
    back (a ∷ list) = ap (λ w. a ∷ w) (back list)

-- ---- which numbers are final

module _ (test : Place → Bool) (xs : List Place) (d : AreDifferent xs) (p : Place) (h : In p xs) where
  abbrev plain : List Place
  plain = filter (λ q. not (test q)) xs

  abbrev both : List Place
  both = plain ++ filter test xs

  pub plain_number : test p ≡ false → number_in both p ≤ length plain
  plain_number e =
      let j = In_get plain p (In-filter (λ q. not (test q)) p xs h (ap not e)) in
      let n : number_in both p ≡ suc j.0 = number_at both j.0 p (halves_differ test xs d) (get_front plain (filter test xs) j.0 p j.1) in
      let b : j.0 < length plain = get_below plain j.0 p j.1 in
      omega arith

  pub final_number : test p ≡ true → length plain + 1 ≤ number_in both p
  final_number e =
      let n = number_there both p (halves_in test xs p h) in
      let is : number_in both p ≡ suc n.0 = n.2 in
      elim (cases_lt n.0 (length plain)) [
        | inr l ↦ omega arith
        | inl l ↦
            let q = get_exists plain n.0 l in
            let same : q.0 ≡ p = some_in q.0 p (sym (get_front plain (filter test xs) n.0 q.0 q.1) ∙ n.1) in
            let f : not (test p) ≡ true = (In-filter_from (λ q. not (test q)) p xs (subst (λ w. In w plain) same (get_In plain n.0 q.0 q.1))).1 in
            absurd (true≢false (sym f ∙ ap not e))
      ]

  pub final_is : nat_le (length plain + 1) (number_in both p) ≡ test p
  final_is = by (test p) refl
    where
      by : (b : Bool) → test p ≡ b → nat_le (length plain + 1) (number_in both p) ≡ b
      by true e = le-leb (length plain + 1) (number_in both p) (final_number e)
      by false e = (elim (nat_le (length plain + 1) (number_in both p)) as (λ b. nat_le (length plain + 1) (number_in both p) ≡ b → b ≡ false) [
        | true ↦ λ q. let l : length plain + 1 ≤ number_in both p = leb-true (length plain + 1) (number_in both p) q in let u : number_in both p ≤ length plain = plain_number e in absurd (omega arith)
        | false ↦ λ q. refl
      ]) refl

-- ---- the states of what is met

module _ (entries : List EntryFsm) (sound : AreSound entries) (met : List Place) (w : IsWalk entries met met) where
  abbrev places : List Place
  places = plain_first entries met

  abbrev M : Minimal
  M = made_of entries met

  pub met_differ : AreDifferent met
  met_differ = walk_differs entries sound met met w

  pub places_apart : AreDifferent places
  places_apart = halves_differ (is_final entries) met met_differ

  -- places that are found a second time, in halves
  pub plain_stay : with_places [] (filter (λ p. not (is_final entries p)) met) ≡ filter (λ p. not (is_final entries p)) met
  plain_stay = different_stay (filter (λ p. not (is_final entries p)) met) [] (different_filter (λ p. not (is_final entries p)) met met_differ)

  pub places_same : with_places (with_places [] (filter (λ p. not (is_final entries p)) met)) (filter (λ p. is_final entries p) met) ≡ places
  places_same = ap (λ r. with_places r (filter (is_final entries) met)) plain_stay ∙ different_stay (filter (is_final entries) met) (filter (λ p. not (is_final entries p)) met) places_apart

  pub made_same : (keys : List Place) (n : ℕ) (ss : List MinState) (es : List ℕ) → keys ≡ with_places (with_places [] (filter (λ p. not (is_final entries p)) met)) (filter (λ p. is_final entries p) met)
      → n ≡ length (with_places [] (filter (λ p. not (is_final entries p)) met)) → ss ≡ states_for entries keys → es ≡ map (number_in keys) (starts_of entries) → ◌≡◌ {A = Minimal} (record { states = ss; entries = es; first_final = n + 1 }) M
  made_same keys n ss es k m s e =
      let are : keys ≡ places = k ∙ places_same in
      λ i. record {
        states = (s ∙ ap (states_for entries) are) i;
        entries = (e ∙ ap (λ r. map (number_in r) (starts_of entries)) are) i;
        first_final = (m ∙ ap length plain_stay) i + 1;
      }

  pub built_in : (e i : ℕ) → IsBuilt entries (Some (e, i)) → In (record { entry = e; state = i }) places
  built_in e i b = halves_in (is_final entries) met (record { entry = e; state = i }) (all_met entries sound met w e i b)

  pub in_built : (p : Place) → In p places → IsBuilt entries (state_of entries p)
  in_built p h = w.reached p (halves_from (is_final entries) met p h)

  -- the state of a state that is reached
  pub state_is : (e i : ℕ) → IsBuilt entries (Some (e, i)) → (s : State) × (state_at (graph_at entries e) i ≡ Some s) × (slice_get M.states (number_in places (record { entry = e; state = i })) ≡ Some (min_state entries places (record { entry = e; state = i }) s))
  state_is e i b =
      let n = entry_from (length entries) e b.0 in
      let s = get_exists (graph_at entries e).states i (reach_there entries e (sound.each e n.0 n.1).machine i b.1) in
      let k = number_there places (record { entry = e; state = i }) (built_in e i b) in (
        s.0,
        s.1,
        ap (slice_get M.states) k.2 ∙ slice_get-map (state_for entries places) places k.0 ∙ ap (option_map (state_for entries places)) k.1
            ∙ ap (λ o. Some (on_part error_state (min_state entries places (record { entry = e; state = i })) o)) s.1,
      )

  -- what is told of it
  pub shows : {X : Type 0} (F : Option State → X) (H : Option MinState → X) (e i : ℕ) → ((s : State) → H (Some (min_state entries places (record { entry = e; state = i }) s)) ≡ F (Some s)) → IsBuilt entries (Some (e, i))
      → H (slice_get M.states (number_in places (record { entry = e; state = i }))) ≡ F (state_at (graph_at entries e) i)
  shows F H e i h b = let p = state_is e i b in ap H p.2 ∙ h p.0 ∙ sym (ap F p.1)

  pub number_positive : (e i : ℕ) → IsBuilt entries (Some (e, i)) → (k : ℕ) × (number_in places (record { entry = e; state = i }) ≡ suc k)
  number_positive e i b = let k = number_there places (record { entry = e; state = i }) (built_in e i b) in (k.0, k.2)
