-- Which actions have numbers: each once, and only the Spec's.
use Rattle.std.proofs.Common.{◌≡◌, ℕ, zero, suc, ◌-◌, ◌≤◌, Bool, true, false, true≢false, cond, ◌||◌, nat_eq, List, [], ◌∷◌, ◌++◌, length, map, drop, Option, Some, None, refl, sym, ◌∙◌, subst, arith, inl, inr, ◌⊎◌}
use Rattle.std.specs.Prelude.{slice_get, All}
use Rattle.std.specs.List.{AllByRecursion, flat_map, list_any, range_with_len}
use Rattle.std.proofs.lemmas.Bool.{or_parts, eq-eqb}
use Rattle.std.proofs.lemmas.List.Elements.{recursion_from_All, All-take, All-drop}
use Rattle.indexmap.specs.IndexSet.{insert_key}
use Rattle.rl_types.specs.declared.numbers.ActionId.{ActionId}
use Rattle.rl_sets.specs.Sets.{In}
use Rattle.rl_automata.specs.Refused.{AreDifferent}
use Rattle.rl_arrays.specs.TableMachine.{asked_bits, entry_number}
use Rattle.rl_model.specs.declared.spec.Spec.{Spec}
use Rattle.rl_model.specs.WellFormed.{IsNumber}
use Rattle.rl_minimal.specs.declared.state.MinEdge.{MinEdge}
use Rattle.rl_minimal.specs.declared.state.MinState.{MinState}
use Rattle.rl_minimal.specs.Minimal.{Minimal, numbers}
use Rattle.rl_layout.specs.declared.runs.Run.{Run}
use Rattle.rl_layout.specs.Runs.{edges_of, same_actions}
use Rattle.rl_layout.specs.Cells.{ordered_of, asks_of, entry_count, edge_at, steps_of_run, steps_of}
use Rattle.rl_layout.specs.Books.{is_empty, with_list, with_lists, list_of, uses_of, with_uses, lists_of, with_actions, with_members, order_of}
use Rattle.rl_layout.specs.Fits.{Fits, StateFits, EdgeFits, AreActions}
use Rattle.rl_layout.proofs.ListLaws.{all_append, all_map, all_more, all_from, all_flat_map, all_mapped, found_all}

-- ---- lists without an element twice

pub get_in : {S : Type 0} → (xs : List S) (i : ℕ) (x : S) → slice_get xs i ≡ Some x → In x xs
get_in [] i x e = absurd cc
get_in (y ∷ xs) zero x e = inl (let same : y ≡ x = cc in same)
get_in (y ∷ xs) (suc i) x e = inr (get_in xs i x e)

in_last : {S : Type 0} → (xs : List S) (a x : S) → In x (xs ++ a ∷ []) → In x xs ⊎ (a ≡ x)
in_last [] a x (inl e) = inr e
in_last [] a x (inr i) = absurd i
in_last (y ∷ xs) a x (inl e) = inl (inl e)
in_last (y ∷ xs) a x (inr i) = elim (in_last xs a x i) [ inl j ↦ inl (inr j) | inr e ↦ inr e ]

different_push : {S : Type 0} → (xs : List S) (a : S) → AreDifferent xs → (In a xs → ⊥) → AreDifferent (xs ++ a ∷ [])
different_push [] a d n = ((λ i. i), tt)
different_push (x ∷ xs) a d n = ((λ i. elim (in_last xs a x i) [ inl j ↦ d.0 j | inr e ↦ n (inl (sym e)) ]), different_push xs a d.1 (λ i. n (inr i)))

pub different_at : {S : Type 0} → (xs : List S) (i j : ℕ) (x : S) → AreDifferent xs → slice_get xs i ≡ Some x → slice_get xs j ≡ Some x → i ≡ j
different_at [] i j x d e h = absurd cc
different_at (y ∷ xs) zero zero x d e h = refl
different_at (y ∷ xs) zero (suc j) x d e h = let same : x ≡ y = cc in absurd (d.0 (subst (λ w. In w xs) same (get_in xs j x h)))
different_at (y ∷ xs) (suc i) zero x d e h = let same : x ≡ y = cc in absurd (d.0 (subst (λ w. In w xs) same (get_in xs i x e)))
different_at (y ∷ xs) (suc i) (suc j) x d e h = let same : i ≡ j = different_at xs i j x d.1 e h in omega (arith, same)

-- without one of its elements a list is shorter by one
without_one : {S : Type 0} → (ys : List S) (c : S) → In c ys → (zs : List S) × (length ys ≡ suc (length zs)) × ((x : S) → In x ys → (c ≡ x) ⊎ In x zs)
without_one [] c h = absurd h
without_one (y ∷ ys) c (inl e) = (ys, refl, (λ x i. elim i [ inl f ↦ inl (sym e ∙ f) | inr j ↦ inr j ]))
without_one (y ∷ ys) c (inr h) =
    let p = without_one ys c h in
    let n = p.1 in
    (y ∷ p.0, omega (arith, n), (λ x i. elim i [ inl f ↦ inr (inl f) | inr j ↦ elim (p.2 x j) [ inl q ↦ inl q | inr q ↦ inr (inr q) ] ]))

pub different_within : {S : Type 0} → (cs ys : List S) → AreDifferent cs → ((x : S) → In x cs → In x ys) → length cs ≤ length ys
different_within [] ys d h = omega arith
different_within (c ∷ cs) ys d h =
    let p = without_one ys c (h c (inl refl)) in
    let l : length cs ≤ length p.0 = different_within cs p.0 d.1 (λ x i. elim (p.2 x (h x (inr i))) [ inl e ↦ absurd (d.0 (subst (λ w. In w cs) (sym e) i)) | inr j ↦ j ]) in
    let e : length ys ≡ suc (length p.0) = p.1 in
    omega arith

-- ---- each action has one number

not_in : (order : List ℕ) (a : ℕ) → list_any (nat_eq a) order ≡ false → In a order → ⊥
not_in [] a h i = i
not_in (b ∷ order) a h (inl e) = true≢false (sym (eq-eqb a b (sym e)) ∙ (or_parts (nat_eq a b) (list_any (nat_eq a) order) h).0)
not_in (b ∷ order) a h (inr i) = not_in order a (or_parts (nat_eq a b) (list_any (nat_eq a) order) h).1 i

key_differs : (order : List ℕ) (a : ℕ) → AreDifferent order → AreDifferent (insert_key nat_eq order a)
key_differs order a d = by (list_any (nat_eq a) order) refl
  where
    by : (b : Bool) → list_any (nat_eq a) order ≡ b → AreDifferent (cond b order (order ++ a ∷ []))
    by true e = d
    by false e = different_push order a d (not_in order a e)

actions_differ : (list : List ActionId) (order : List ℕ) → AreDifferent order → AreDifferent (with_actions order list)
actions_differ [] order d = d
actions_differ (a ∷ list) order d = actions_differ list (insert_key nat_eq order a.0) (key_differs order a.0 d)

members_differ : (lists : List (List ActionId)) (order : List ℕ) → AreDifferent order → AreDifferent (with_members order lists)
members_differ [] order d = d
members_differ (l ∷ lists) order d = members_differ lists (with_actions order l) (actions_differ l order d)

pub order_differs : (lists : List (List ActionId)) → AreDifferent (order_of lists)
order_differs lists = members_differ lists [] tt

-- ---- and stands in a list

key_all : (P : ℕ → Type 0) (order : List ℕ) (a : ℕ) → P a → AllByRecursion P order → AllByRecursion P (insert_key nat_eq order a)
key_all P order a p all = by (list_any (nat_eq a) order)
  where
    by : (b : Bool) → AllByRecursion P (cond b order (order ++ a ∷ []))
    by true = all
    by false = all_append P order (a ∷ []) all (p, tt)

actions_all : (P : ℕ → Type 0) (list : List ActionId) (order : List ℕ) → AllByRecursion P (numbers list) → AllByRecursion P order → AllByRecursion P (with_actions order list)
actions_all P [] order own all = all
actions_all P (a ∷ list) order own all = actions_all P list (insert_key nat_eq order a.0) own.1 (key_all P order a.0 own.0 all)

members_all : (P : ℕ → Type 0) (lists : List (List ActionId)) (order : List ℕ) → AllByRecursion (λ l. AllByRecursion P (numbers l)) lists → AllByRecursion P order → AllByRecursion P (with_members order lists)
members_all P [] order own all = all
members_all P (l ∷ lists) order own all = members_all P lists (with_actions order l) own.1 (actions_all P l order own.0 all)

list_all : (P : List ActionId → Type 0) (lists : List (List ActionId)) (one : List ActionId) → P one → AllByRecursion P lists → AllByRecursion P (with_list lists one)
list_all P lists one p all = by (is_empty one || list_any (same_actions one) lists)
  where
    by : (b : Bool) → AllByRecursion P (cond b lists (lists ++ one ∷ []))
    by true = all
    by false = all_append P lists (one ∷ []) all (p, tt)

lists_all : (P : List ActionId → Type 0) (more lists : List (List ActionId)) → AllByRecursion P more → AllByRecursion P lists → AllByRecursion P (with_lists lists more)
lists_all P [] lists own all = all
lists_all P (one ∷ more) lists own all = lists_all P more (with_list lists one) own.1 (list_all P lists one own.0 all)

uses_all : (P : List ActionId → Type 0) (states : List MinState) (lists : List (List ActionId)) → AllByRecursion (λ s. AllByRecursion P (uses_of s)) states → AllByRecursion P lists → AllByRecursion P (with_uses lists states)
uses_all P [] lists own all = all
uses_all P (s ∷ states) lists own all = uses_all P states (with_lists lists (uses_of s)) own.1 (lists_all P (uses_of s) lists own.0 all)

-- what holds of each member of each list of each state holds of each action that has a number
pub order_all : (P : ℕ → Type 0) (states : List MinState) → AllByRecursion (λ s. AllByRecursion (λ l. AllByRecursion P (numbers l)) (uses_of s)) states → AllByRecursion P (order_of (lists_of states))
order_all P states all = members_all P (lists_of states) [] (uses_all (λ l. AllByRecursion P (numbers l)) states [] all tt) tt

-- ---- what holds of the lists of a state's edges holds of those of its steps

module _ (Q : List ActionId → Type 0) (none : Q []) (R : MinEdge → Type 0) (of_edge : (e : MinEdge) → R e → Q e.list) where
  step_all : (edges : List MinEdge) (asks j : ℕ) → AllByRecursion R edges → Q (list_of (edge_at asks j edges))
  step_all edges asks j all = by (edge_at asks j edges) refl
    where
      by : (o : Option MinEdge) → edge_at asks j edges ≡ o → Q (list_of o)
      by None e = none
      by (Some x) e = of_edge x (found_all R (λ (e : MinEdge). nat_eq (entry_number (asked_bits asks) e.truths.0) j) edges x all e)

  run_all : (edges : List MinEdge) (r : Run) → All R edges → AllByRecursion Q (map list_of (steps_of_run edges r))
  run_all edges r all = all_map Q list_of (steps_of_run edges r)
      (all_map (λ o. Q (list_of o)) (λ j. edge_at (asks_of edges r) j (edges_of edges r)) (range_with_len 0 (entry_count edges r))
      (all_from (λ j. Q (list_of (edge_at (asks_of edges r) j (edges_of edges r)))) (range_with_len 0 (entry_count edges r)) (λ i j e. step_all (edges_of edges r) (asks_of edges r) j
      (recursion_from_All R (edges_of edges r) (All-take R (r.end - r.first) (drop r.first edges) (All-drop R r.first edges all))))))

  pub steps_all : (s : MinState) → All R s.edges → AllByRecursion Q (map list_of (steps_of s))
  steps_all s all = all_map Q list_of (steps_of s) (all_flat_map (λ o. Q (list_of o)) (steps_of_run s.edges) (ordered_of s)
      (all_from (λ r. AllByRecursion (λ o. Q (list_of o)) (steps_of_run s.edges r)) (ordered_of s) (λ i r e. all_mapped Q list_of (steps_of_run s.edges r) (run_all s.edges r all))))

-- ---- the actions are the Spec's

module _ (spec : Spec) (m : Minimal) (fits : Fits spec m) where
  abbrev IsOwn : List ActionId → Type 0
  IsOwn list = AllByRecursion (IsNumber (length spec.actions)) (numbers list)

  own : (list : List ActionId) → AreActions spec list → IsOwn list
  own list all = all_map (IsNumber (length spec.actions)) (λ (a : ActionId). a.0) list (recursion_from_All (λ (a : ActionId). IsNumber (length spec.actions) a.0) list all)

  uses_own : (s : MinState) → StateFits spec s → AllByRecursion IsOwn (uses_of s)
  uses_own s f = (own s.from f.from, (own s.to f.to, (own s.eof f.eof, (own s.error f.error, (own s.token f.token, steps_all IsOwn tt (EdgeFits spec) (λ e f. own e.list f.actions) s f.edges)))))

  -- each action that has a number is one of the Spec's
  pub order_own : AllByRecursion (IsNumber (length spec.actions)) (order_of (lists_of m.states))
  order_own = order_all (IsNumber (length spec.actions)) m.states (all_more (StateFits spec) (λ s. AllByRecursion IsOwn (uses_of s)) m.states uses_own (recursion_from_All (StateFits spec) m.states fits.states))
