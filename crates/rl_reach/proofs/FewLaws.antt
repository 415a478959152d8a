-- A walk meets no more places than there are states.
use Rattle.std.proofs.Common.{◌≡◌, ℕ, zero, suc, ◌+◌, ◌-◌, ◌<◌, ◌≤◌, true, false, cond, List, [], ◌∷◌, ◌++◌, map, length, Some, None, slice_get, nat_eq, refl, ap, sym, ◌∙◌, subst, arith, length-append}
use Rattle.std.specs.List.{range_with_len}
use Rattle.std.proofs.lemmas.List.FromFn.{length-map-range_with_len}
use Rattle.std.proofs.lemmas.List.Sums.{sum_by-cons}
use borrow.Author.Tests.{eqb-true}
use Rattle.rl_sets.specs.Sets.{In}
use Rattle.rl_sets.proofs.SetLaws.{In-append_left, In-append_right, In-map}
use Rattle.rl_automata.specs.Auto.{on_part}
use Rattle.rl_automata.proofs.Congruence.{none_in, some_in}
use Rattle.rl_explore.proofs.NumberLaws.{get_exists}
use Rattle.rl_explore.proofs.ExploredLaws.{different_within}
use Rattle.rl_fsm.specs.declared.root.EntryFsm.{EntryFsm}
use Rattle.rl_fsm.specs.Roots.{graph_of, graph_at, states_of, states_in, entry_at}
use Rattle.rl_fsm.specs.Sound.{IsSound}
use Rattle.rl_reach.specs.declared.place.Place.{Place}
use Rattle.rl_reach.specs.Walks.{AreSound, IsWalk}
use Rattle.rl_reach.proofs.WalkLaws.{in_range_to, entry_from, reach_there, walk_differs}

not_zero : (e : ℕ) → 1 ≤ e → nat_eq e 0 ≡ false
not_zero e h = (elim (nat_eq e 0) as (λ b. nat_eq e 0 ≡ b → b ≡ false) [
  | true ↦ λ q. let z : e ≡ 0 = eqb-true e 0 q in absurd (omega arith)
  | false ↦ λ q. refl
]) refl

-- the entry of a number
pub entry_there : (entries : List EntryFsm) (e : ℕ) → 1 ≤ e → e ≤ length entries → (x : EntryFsm) × (slice_get entries (e - 1) ≡ Some x) × (length (graph_at entries e).states ≡ states_of x)
entry_there entries e h k =
    let p = get_exists entries (e - 1) (omega arith) in
    let at : entry_at entries e ≡ Some p.0 = ap (λ b. cond b None (slice_get entries (e - 1))) (not_zero e h) ∙ p.1 in
    (p.0, p.1, ap (λ o. length (on_part (record { start = 0; states = [] }) graph_of o).states) at)

-- ---- all places

abbrev places_from : ℕ → List EntryFsm → List Place
places_from e [] = []
places_from e (x ∷ xs) = map (λ (i : ℕ). record { entry = e; state = i }) (range_with_len 0 (states_of x)) ++ places_from (e + 1) xs

all_length : (e : ℕ) (xs : List EntryFsm) → length (places_from e xs) ≡ states_in xs
all_length e [] = refl
all_length e (x ∷ xs) =
    let here : List Place = map (λ (i : ℕ). record { entry = e; state = i }) (range_with_len 0 (states_of x)) in
    length-append here (places_from (e + 1) xs) ∙ (λ i. length-map-range_with_len (λ (i : ℕ). let p : Place = record { entry = e; state = i } in p) 0 (states_of x) i + all_length (e + 1) xs i) ∙ sym (sum_by-cons states_of x xs)

in_all : (xs : List EntryFsm) (e k i : ℕ) (x : EntryFsm) → slice_get xs k ≡ Some x → i < states_of x → In (record { entry = e + k; state = i }) (places_from e xs)
in_all [] e k i x h b = none_in x h
in_all (y ∷ xs) e zero i x h b =
    let here : List Place = map (λ (i : ℕ). record { entry = e; state = i }) (range_with_len 0 (states_of y)) in
    let below : i < states_of y = subst (λ w. i < states_of w) (sym (some_in y x h)) b in
    let same : e ≡ e + 0 = omega arith in
    let first : 0 + i ≡ i = omega arith in
    let inside : In i (range_with_len 0 (states_of y)) = subst (λ w. In w (range_with_len 0 (states_of y))) first (in_range_to 0 (states_of y) i below) in
    subst (λ w. In (record { entry = w; state = i }) (places_from e (y ∷ xs))) same
    (In-append_left (record { entry = e; state = i }) here (places_from (e + 1) xs) (In-map (λ (i : ℕ). let p : Place = record { entry = e; state = i } in p) i (range_with_len 0 (states_of y)) inside))
in_all (y ∷ xs) e (suc k) i x h b =
    let here : List Place = map (λ (i : ℕ). record { entry = e; state = i }) (range_with_len 0 (states_of y)) in
    let same : (e + 1) + k ≡ e + suc k = omega arith in
    In-append_right (record { entry = e + suc k; state = i }) here (places_from (e + 1) xs)
    (subst (λ w. In (record { entry = w; state = i }) (places_from (e + 1) xs)) same (in_all xs (e + 1) k i x h b))

pub walk_few : (entries : List EntryFsm) → AreSound entries → (seen met : List Place) → IsWalk entries seen met → length met ≤ states_in entries
walk_few entries sound seen met w =
    subst (λ n. length met ≤ n) (all_length 1 entries) (different_within met (places_from 1 entries) (walk_differs entries sound seen met w) (λ p h.
    let b = w.reached p h in
    let n = entry_from (length entries) p.entry b.0 in
    let x = entry_there entries p.entry n.0 n.1 in
    let below : p.state < states_of x.0 = subst (λ c. p.state < c) x.2 (reach_there entries p.entry (sound.each p.entry n.0 n.1).machine p.state b.1) in
    let low : 1 ≤ p.entry = n.0 in
    let same : 1 + (p.entry - 1) ≡ p.entry = omega arith in
    subst (λ e. In (record { entry = e; state = p.state }) (places_from 1 entries)) same (in_all entries 1 (p.entry - 1) p.state x.0 x.1 below)))

-- ---- no more entries than states

front_few : (xs : List EntryFsm) (n : ℕ) → n ≤ length xs → ((k : ℕ) (x : EntryFsm) → k < n → slice_get xs k ≡ Some x → 1 ≤ states_of x) → n ≤ states_in xs
front_few xs zero l h = omega arith
front_few [] (suc n) l h = absurd (omega arith)
front_few (x ∷ xs) (suc n) l h =
    let first : 1 ≤ states_of x = h zero x (omega arith) refl in
    let cons : states_in (x ∷ xs) ≡ states_of x + states_in xs = sum_by-cons states_of x xs in
    let rest : n ≤ states_in xs = front_few xs n (omega arith) (λ k y b e. h (suc k) y (omega arith) e) in
    omega arith

pub entries_few : (entries : List EntryFsm) (n : ℕ) → n ≤ length entries → ((e : ℕ) → 1 ≤ e → e ≤ n → IsSound (graph_at entries e)) → n ≤ states_in entries
entries_few entries n l sound = front_few entries n l (λ k x b e.
    let low : 1 ≤ k + 1 = omega arith in
    let high : k + 1 ≤ n = omega arith in
    let there : k + 1 ≤ length entries = omega arith in
    let p = entry_there entries (k + 1) low there in
    let same : (k + 1) - 1 ≡ k = omega arith in
    let is : p.0 ≡ x = some_in p.0 x (sym p.1 ∙ ap (slice_get entries) same ∙ e) in
    let some : (graph_at entries (k + 1)).start < length (graph_at entries (k + 1)).states = (sound (k + 1) low high).start in
    let count : length (graph_at entries (k + 1)).states ≡ states_of x = p.2 ∙ ap states_of is in
    omega arith)
