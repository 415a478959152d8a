-- The list at a list's place has its actions, by their numbers.
use Rattle.std.proofs.Common.{◌≡◌, ℕ, zero, suc, ◌+◌, Bool, true, false, cond, ◌||◌, nat_eq, ℤ, pos, List, [], ◌∷◌, ◌++◌, length, map, take, drop, Some, refl, sym, ap, ◌∙◌, subst, arith, append_assoc, length-append, true≢false}
use Rattle.std.specs.Prelude.{slice_get, position}
use Rattle.std.specs.List.{AllByRecursion, flat_map, list_any}
use Rattle.std.specs.Option.{option_map}
use Rattle.std.proofs.Math.Seq.{take-append_seam}
use Rattle.std.proofs.lemmas.Bool.{or_left, or_right, eqb-true, eq-eqb, ne_eqb, and_from}
use Rattle.std.proofs.lemmas.List.{length-map}
use Rattle.indexmap.specs.IndexSet.{insert_key}
use Rattle.rl_types.specs.declared.numbers.ActionId.{ActionId}
use Rattle.rl_arrays.specs.Words.{natural, number_at}
use Rattle.rl_arrays.specs.Lists.{members}
use Rattle.rl_minimal.specs.declared.state.MinState.{MinState}
use Rattle.rl_minimal.specs.Minimal.{numbers}
use Rattle.rl_layout.specs.Runs.{same_actions}
use Rattle.rl_layout.specs.Cells.{steps_of}
use Rattle.rl_layout.specs.Books.{is_empty, with_list, with_lists, list_of, uses_of, with_uses, lists_of, place_from, place_in, with_actions, with_members, order_of, number_in, members_of, elements_of, actions_of}
use Rattle.rl_layout.proofs.ListLaws.{position-cons, next_get, all_more, all_flat_map, all_mapped}
use Rattle.rl_layout.proofs.MergeLaws.{same_numbers}

-- ---- lists that are listed

-- the list is empty, or one of the lists
abbrev pub listed : List (List ActionId) → List ActionId → Bool
listed lists list = is_empty list || list_any (same_actions list) lists

not_empty : (a : ActionId) (list : List ActionId) → is_empty (a ∷ list) ≡ false
not_empty a list = ne_eqb (suc (length list)) 0 (λ e. omega arith)

pub some_listed : (lists : List (List ActionId)) (a : ActionId) (list : List ActionId) → listed lists (a ∷ list) ≡ true → list_any (same_actions (a ∷ list)) lists ≡ true
some_listed lists a list e = sym (λ i. not_empty a list i || list_any (same_actions (a ∷ list)) lists) ∙ e

pub any_append : {X : Type 0} → (p : X → Bool) (xs ys : List X) → list_any p xs ≡ true → list_any p (xs ++ ys) ≡ true
any_append p [] ys e = absurd (true≢false (sym e))
any_append p (x ∷ xs) ys e = by (p x) e (any_append p xs ys)
  where
    by : (b : Bool) → (b || list_any p xs) ≡ true → (list_any p xs ≡ true → list_any p (xs ++ ys) ≡ true) → (b || list_any p (xs ++ ys)) ≡ true
    by true e f = refl
    by false e f = f e

pub any_last : {X : Type 0} → (p : X → Bool) (xs : List X) (x : X) → p x ≡ true → list_any p (xs ++ x ∷ []) ≡ true
any_last p [] x e = or_left (p x) false e
any_last p (y ∷ xs) x e = or_right (p y) (list_any p (xs ++ x ∷ [])) (any_last p xs x e)

pub same_self : (xs : List ActionId) → same_actions xs xs ≡ true
same_self [] = refl
same_self (x ∷ xs) = and_from (nat_eq x.0 x.0) (same_actions xs xs) (eq-eqb x.0 x.0 refl) (same_self xs)

-- what was listed still is
listed_more : (lists more : List (List ActionId)) (list : List ActionId) → listed lists list ≡ true → listed (lists ++ more) list ≡ true
listed_more lists more list e = by (is_empty list) e
  where
    by : (b : Bool) → (b || list_any (same_actions list) lists) ≡ true → (b || list_any (same_actions list) (lists ++ more)) ≡ true
    by true e = refl
    by false e = any_append (same_actions list) lists more e

list_grows : (lists : List (List ActionId)) (one : List ActionId) → (list : List ActionId) → listed lists list ≡ true → listed (with_list lists one) list ≡ true
list_grows lists one list e = by (is_empty one || list_any (same_actions one) lists)
  where
    by : (b : Bool) → listed (cond b lists (lists ++ one ∷ [])) list ≡ true
    by true = e
    by false = listed_more lists (one ∷ []) list e

list_there : (lists : List (List ActionId)) (one : List ActionId) → listed (with_list lists one) one ≡ true
list_there lists one = by (is_empty one || list_any (same_actions one) lists) refl
  where
    by : (b : Bool) → (is_empty one || list_any (same_actions one) lists) ≡ b → listed (cond b lists (lists ++ one ∷ [])) one ≡ true
    by true e = e
    by false e = or_right (is_empty one) (list_any (same_actions one) (lists ++ one ∷ [])) (any_last (same_actions one) lists one (same_self one))

lists_grow : (more lists : List (List ActionId)) (list : List ActionId) → listed lists list ≡ true → listed (with_lists lists more) list ≡ true
lists_grow [] lists list e = e
lists_grow (one ∷ more) lists list e = lists_grow more (with_list lists one) list (list_grows lists one list e)

lists_there : (more lists : List (List ActionId)) → AllByRecursion (λ list. listed (with_lists lists more) list ≡ true) more
lists_there [] lists = tt
lists_there (one ∷ more) lists = (lists_grow more (with_list lists one) one (list_there lists one), lists_there more (with_list lists one))

uses_grow : (states : List MinState) (lists : List (List ActionId)) (list : List ActionId) → listed lists list ≡ true → listed (with_uses lists states) list ≡ true
uses_grow [] lists list e = e
uses_grow (s ∷ states) lists list e = uses_grow states (with_lists lists (uses_of s)) list (lists_grow (uses_of s) lists list e)

uses_there : (states : List MinState) (lists : List (List ActionId)) → AllByRecursion (λ s. AllByRecursion (λ list. listed (with_uses lists states) list ≡ true) (uses_of s)) states
uses_there [] lists = tt
uses_there (s ∷ states) lists = (
  all_more (λ list. listed (with_lists lists (uses_of s)) list ≡ true) (λ list. listed (with_uses (with_lists lists (uses_of s)) states) list ≡ true) (uses_of s) (uses_grow states (with_lists lists (uses_of s))) (lists_there (uses_of s) lists),
  uses_there states (with_lists lists (uses_of s)),
)

-- each list of each state is listed
pub lists_listed : (states : List MinState) → AllByRecursion (λ s. AllByRecursion (λ list. listed (lists_of states) list ≡ true) (uses_of s)) states
lists_listed states = uses_there states []

-- each list of each step is listed
pub steps_listed : (states : List MinState) → AllByRecursion (λ o. listed (lists_of states) (list_of o) ≡ true) (flat_map steps_of states)
steps_listed states = all_flat_map (λ o. listed (lists_of states) (list_of o) ≡ true) steps_of states
    (all_more (λ s. AllByRecursion (λ list. listed (lists_of states) list ≡ true) (uses_of s)) (λ s. AllByRecursion (λ o. listed (lists_of states) (list_of o) ≡ true) (steps_of s)) states
    (λ s u. all_mapped (λ list. listed (lists_of states) list ≡ true) list_of (steps_of s) u.1.1.1.1.1) (lists_listed states))

-- ---- what stands at a list's place

-- a list that begins at a place
members_from : (xs : List ℤ) (p n : ℕ) (ms rest : List ℤ) → drop p xs ≡ pos n ∷ (ms ++ rest) → n ≡ length ms → members xs p ≡ map natural ms
members_from xs zero n ms rest e l = subst (λ w. members w 0 ≡ map natural ms) (sym e) ((λ i. map natural (take (l i) (ms ++ rest))) ∙ ap (map natural) (take-append_seam ms rest))
members_from [] (suc p) n ms rest e l = absurd cc
members_from (x ∷ xs) (suc p) n ms rest e l = let next : suc p + 1 ≡ suc (p + 1) = omega arith in (λ i. map natural (take (number_at xs p) (drop (next i) (x ∷ xs)))) ∙ members_from xs p n ms rest e l

module _ (order : List ℕ) where
  numbers_are : (list : List ActionId) → map natural (members_of order list) ≡ map (number_in order) (numbers list)
  numbers_are [] = refl
  numbers_are (a ∷ list) = ap (λ w. number_in order a.0 ∷ w) (numbers_are list)

  -- the list that stands at a place, and what stands behind it
  abbrev Standing : List ActionId → List (List ActionId) → List ℤ → ℕ → Type 0
  Standing list lists front place = (l : List ActionId) × (rest : List ℤ) × (same_actions list l ≡ true) × (drop (place_from place lists list) (front ++ flat_map (elements_of order) lists) ≡ elements_of order l ++ rest)

  drop_front : (front rest : List ℤ) (place : ℕ) → length front ≡ place → drop place (front ++ rest) ≡ rest
  drop_front [] rest zero e = refl
  drop_front [] rest (suc p) e = absurd (omega arith)
  drop_front (x ∷ front) rest zero e = absurd (omega arith)
  drop_front (x ∷ front) rest (suc p) e = drop_front front rest p (omega arith)

  standing : (list : List ActionId) (lists : List (List ActionId)) (front : List ℤ) (place : ℕ) → length front ≡ place → list_any (same_actions list) lists ≡ true → Standing list lists front place
  standing list [] front place n e = absurd (true≢false (sym e))
  standing list (l ∷ lists) front place n e = by (same_actions list l) refl e (standing list lists (front ++ elements_of order l) (place + length l + 1) longer)
    where
      longer : length (front ++ elements_of order l) ≡ place + length l + 1
      longer = let a = length-append front (elements_of order l) in let b = length-map l (λ (x : ActionId). pos (number_in order x.0)) in omega (arith, n, a, b)

      by : (b : Bool) → same_actions list l ≡ b → (b || list_any (same_actions list) lists) ≡ true → (list_any (same_actions list) lists ≡ true → Standing list lists (front ++ elements_of order l) (place + length l + 1))
          → (k : List ActionId) × (rest : List ℤ) × (same_actions list k ≡ true) × (drop (cond b place (place_from (place + length l + 1) lists list)) (front ++ (elements_of order l ++ flat_map (elements_of order) lists)) ≡ elements_of order k ++ rest)
      by true s h f = (l, flat_map (elements_of order) lists, s, drop_front front (elements_of order l ++ flat_map (elements_of order) lists) place n)
      by false s h f = let p = f h in (p.0, p.1, p.2, ap (drop (place_from (place + length l + 1) lists list)) (sym (append_assoc front (elements_of order l) (flat_map (elements_of order) lists))) ∙ p.3)

  some_shown : (lists : List (List ActionId)) (list : List ActionId) → list_any (same_actions list) lists ≡ true → members (actions_of order lists) (place_from 1 lists list) ≡ map (number_in order) (numbers list)
  some_shown lists list e =
      let p = standing list lists (pos 0 ∷ []) 1 refl e in
      members_from (actions_of order lists) (place_from 1 lists list) (length p.0) (members_of order p.0) p.1 p.3 (sym (length-map p.0 (λ (x : ActionId). pos (number_in order x.0))))
      ∙ numbers_are p.0 ∙ ap (map (number_in order)) (sym (same_numbers list p.0 p.2))

  pub list_shown : (lists : List (List ActionId)) (list : List ActionId) → listed lists list ≡ true → members (actions_of order lists) (place_in lists list) ≡ map (number_in order) (numbers list)
  list_shown lists [] e = refl
  list_shown lists (a ∷ list) e = (λ i. members (actions_of order lists) (cond (not_empty a list i) 0 (place_from 1 lists (a ∷ list)))) ∙ some_shown lists (a ∷ list) (some_listed lists a list e)

-- ---- the actions that have numbers

abbrev pub has_number : List ℕ → ℕ → Bool
has_number order a = list_any (nat_eq a) order

key_grows : (order : List ℕ) (b a : ℕ) → has_number order a ≡ true → has_number (insert_key nat_eq order b) a ≡ true
key_grows order b a e = by (list_any (nat_eq b) order)
  where
    by : (t : Bool) → has_number (cond t order (order ++ b ∷ [])) a ≡ true
    by true = e
    by false = any_append (nat_eq a) order (b ∷ []) e

key_there : (order : List ℕ) (a : ℕ) → has_number (insert_key nat_eq order a) a ≡ true
key_there order a = by (list_any (nat_eq a) order) refl
  where
    by : (t : Bool) → list_any (nat_eq a) order ≡ t → has_number (cond t order (order ++ a ∷ [])) a ≡ true
    by true e = e
    by false e = any_last (nat_eq a) order a (eq-eqb a a refl)

actions_grow : (list : List ActionId) (order : List ℕ) (a : ℕ) → has_number order a ≡ true → has_number (with_actions order list) a ≡ true
actions_grow [] order a e = e
actions_grow (b ∷ list) order a e = actions_grow list (insert_key nat_eq order b.0) a (key_grows order b.0 a e)

actions_there : (list : List ActionId) (order : List ℕ) → AllByRecursion (λ a. has_number (with_actions order list) a ≡ true) (numbers list)
actions_there [] order = tt
actions_there (b ∷ list) order = (actions_grow list (insert_key nat_eq order b.0) b.0 (key_there order b.0), actions_there list (insert_key nat_eq order b.0))

members_grow : (lists : List (List ActionId)) (order : List ℕ) (a : ℕ) → has_number order a ≡ true → has_number (with_members order lists) a ≡ true
members_grow [] order a e = e
members_grow (l ∷ lists) order a e = members_grow lists (with_actions order l) a (actions_grow l order a e)

members_there : (lists : List (List ActionId)) (order : List ℕ) (list : List ActionId) → list_any (same_actions list) lists ≡ true → AllByRecursion (λ a. has_number (with_members order lists) a ≡ true) (numbers list)
members_there [] order list e = absurd (true≢false (sym e))
members_there (l ∷ lists) order list e = by (same_actions list l) refl e (members_there lists (with_actions order l) list)
  where
    by : (b : Bool) → same_actions list l ≡ b → (b || list_any (same_actions list) lists) ≡ true → (list_any (same_actions list) lists ≡ true → AllByRecursion (λ a. has_number (with_members (with_actions order l) lists) a ≡ true) (numbers list)) → AllByRecursion (λ a. has_number (with_members (with_actions order l) lists) a ≡ true) (numbers list)
    by true s h f = subst (AllByRecursion (λ a. has_number (with_members (with_actions order l) lists) a ≡ true)) (sym (same_numbers list l s))
        (all_more (λ a. has_number (with_actions order l) a ≡ true) (λ a. has_number (with_members (with_actions order l) lists) a ≡ true) (numbers l) (members_grow lists (with_actions order l)) (actions_there l order))
    by false s h f = f h

-- each action of a listed list has a number
pub actions_numbered : (lists : List (List ActionId)) (list : List ActionId) → listed lists list ≡ true → AllByRecursion (λ a. has_number (order_of lists) a ≡ true) (numbers list)
actions_numbered lists [] e = tt
actions_numbered lists (a ∷ list) e = members_there lists [] (a ∷ list) (some_listed lists a list e)

-- its number is the place of the action, from 1
pub numbered_place : (order : List ℕ) (a : ℕ) → has_number order a ≡ true → (i : ℕ) × (position (nat_eq a) order ≡ Some i) × (slice_get order i ≡ Some a)
numbered_place [] a e = absurd (true≢false (sym e))
numbered_place (b ∷ order) a e = by (nat_eq a b) refl e (numbered_place order a)
  where
    by : (t : Bool) → nat_eq a b ≡ t → (t || has_number order a) ≡ true → (has_number order a ≡ true → (i : ℕ) × (position (nat_eq a) order ≡ Some i) × (slice_get order i ≡ Some a)) → (i : ℕ) × (position (nat_eq a) (b ∷ order) ≡ Some i) × (slice_get (b ∷ order) i ≡ Some a)
    by true s h f = (0, position-cons (nat_eq a) b order ∙ (λ i. cond (s i) (Some 0) (option_map (λ i. i + 1) (position (nat_eq a) order))), ap (λ n. Some n) (sym (eqb-true a b s)))
    by false s h f = let p = f h in (p.0 + 1, position-cons (nat_eq a) b order ∙ (λ i. cond (s i) (Some 0) (option_map (λ i. i + 1) (p.1 i))), next_get b order p.0 ∙ p.2)
