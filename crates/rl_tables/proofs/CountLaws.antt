-- Members of lists, parts of lists, and statements at the outer level.
use Rattle.std.proofs.Common.{◌≡◌, ◌⊎◌, ℕ, zero, suc, ◌+◌, ◌<◌, ◌≤◌, List, [], ◌∷◌, length, min, map, take, drop, Bool, true, false, Some, None, refl, sym, ap, ◌∙◌, inl, inr, arith}
use Rattle.std.specs.Prelude.{ℤ, pos, not, ◌↔◌, ◌≤ℤ◌, ◌==◌, slice_get, slice_index_or, if◌then◌else◌}
use Rattle.std.specs.List.{Contains, list_any}
use Rattle.std.specs.Option.{option_map_or}
use Rattle.std.specs.Ordering.{int_eq}
use Rattle.std.proofs.lemmas.Bool.{cases_lt}
use Rattle.std.proofs.lemmas.Bool.Decides.{nat_tests}
use Rattle.std.proofs.lemmas.List.{drop_all}
use Rattle.std.proofs.lemmas.Option.{slice_get_past}
use Rattle.rl_arrays.specs.declared.arrays.Arrays.{Arrays}
use Rattle.rl_arrays.specs.Words.{natural, number_at}
use Rattle.rl_arrays.specs.Lists.{members}
use Rattle.rl_arrays.specs.Statements.{kind_of, ends_list, outer_kinds, up_to_end}
use Rattle.rl_arrays.specs.Sizes.{entries_of, used_cell, IsIn}
use Rattle.rl_arrays.specs.Rules.{IsListed, CountSays}
use Rattle.rl_tables.specs.Moves.{MayMove}

bool_cases : (b : Bool) → (b ≡ true) ⊎ (b ≡ false)
bool_cases true = inl refl
bool_cases false = inr refl

eq_yes : (m n : ℕ) → (m == n) ≡ true → m ≡ n
eq_yes m n e = grind (arith, nat_tests)

yes_eq : (m n : ℕ) → m ≡ n → (m == n) ≡ true
yes_eq m n e = grind (arith, nat_tests)

any_to : (xs : List ℤ) (k : ℕ) → list_any (λ number. natural number == k) xs ≡ true → Contains (map natural xs) k
any_to [] k e = absurd cc
any_to (x ∷ xs) k e = elim (bool_cases (natural x == k)) [
  | inl same ↦ (0, omega arith, eq_yes (natural x) k same)
  | inr other ↦ let rest = any_to xs k (rw other at e) in (suc rest.0, omega (arith, rest.1), rest.2)
]

to_any : (xs : List ℤ) (k j : ℕ) → j < length (map natural xs) → slice_index_or (map natural xs) j k ≡ k → list_any (λ number. natural number == k) xs ≡ true
to_any [] k j lt e = absurd (omega arith)
to_any (x ∷ xs) k zero lt e = let same = yes_eq (natural x) k e in rw same refl
to_any (x ∷ xs) k (suc j) lt e = let rest = to_any xs k j (omega arith) e in elim (bool_cases (natural x == k)) [ inl same ↦ rw same refl | inr other ↦ rw other rest ]

pub listed : (a : Arrays) (numbers : List ℤ) (i k : ℕ) (number : ℤ) (ms : List ℤ) → slice_get numbers i ≡ Some number → map natural ms ≡ members a.actions (natural number)
    → list_any (λ n. natural n == k) ms ≡ true → IsListed a numbers i k
listed a numbers i k number ms e is any = rw e (rw (sym is) (any_to ms k any))

pub any_listed : (a : Arrays) (numbers : List ℤ) (i k : ℕ) (number : ℤ) (ms : List ℤ) → slice_get numbers i ≡ Some number → map natural ms ≡ members a.actions (natural number)
    → IsListed a numbers i k → list_any (λ n. natural n == k) ms ≡ true
any_listed a numbers i k number ms e is h =
    let here : Contains (members a.actions (natural number)) k = rw e at h in
    let there : Contains (map natural ms) k = rw is here in
    to_any ms k there.0 there.1 there.2

pub none_listed : (a : Arrays) (numbers : List ℤ) (i k : ℕ) → length numbers ≤ i → IsListed a numbers i k → ⊥
none_listed a numbers i k le h = rw (slice_get_past numbers i le) at h

pub outer_skip : (k mark : ℤ) (ks marks : List ℤ) → int_eq mark (pos 1) ≡ false → length (up_to_end (outer_kinds (k ∷ ks) (mark ∷ marks))) ≡ length (up_to_end (outer_kinds ks marks))
outer_skip k mark ks marks e = rw e refl

pub outer_more : (k mark : ℤ) (ks marks : List ℤ) → int_eq mark (pos 1) ≡ true → option_map_or ends_list (kind_of k) false ≡ false
    → length (up_to_end (outer_kinds (k ∷ ks) (mark ∷ marks))) ≡ 1 + length (up_to_end (outer_kinds ks marks))
outer_more k mark ks marks e other = rw e (rw other (omega arith))

pub outer_last : (k mark : ℤ) (ks marks : List ℤ) → int_eq mark (pos 1) ≡ true → option_map_or ends_list (kind_of k) false ≡ true
    → length (up_to_end (outer_kinds (k ∷ ks) (mark ∷ marks))) ≡ 1
outer_last k mark ks marks e same = rw e (rw same refl)

outer_no_marks : (ks : List ℤ) → outer_kinds ks [] ≡ []
outer_no_marks [] = refl
outer_no_marks (k ∷ ks) = refl

pub outer_none : (ks marks : List ℤ) (i : ℕ) → min (length ks) (length marks) ≤ i → length (up_to_end (outer_kinds (drop i ks) (drop i marks))) ≡ 0
outer_none ks marks i h = elim (cases_lt i (length ks)) [
  | inl less ↦ rw (drop_all i marks (omega arith)) (rw (outer_no_marks (drop i ks)) refl)
  | inr ge ↦ rw (drop_all i ks ge) refl
]

pub not_both : (b : Bool) → not b ≡ true → b ≡ true → ⊥
not_both true e f = absurd cc
not_both false e f = absurd cc

pub is_not : (b : Bool) → (b ≡ true → ⊥) → not b ≡ true
is_not true h = absurd (h refl)
is_not false h = refl

pub count_says : (a : Arrays) (k : ℕ) (count : ℤ) → pos 0 ≤ℤ count → 0 < k
    → (let first = number_at a.stmt_firsts k in length (up_to_end (outer_kinds (take (natural count) (drop first a.stmt_kinds)) (take (natural count) (drop first a.stmt_outer)))) ≤ 4)
    → MayMove a k → CountSays a k count
count_says a k count low some few m = record {
  positive = low;
  none = λ e. absurd (omega arith);
  from = λ s h. absurd (m.from s h);
  to = λ s h. absurd (m.to s h);
  inner = λ s e h j l. absurd (m.inner s e h j l);
  few = few;
}

pub says_moves : (a : Arrays) (k : ℕ) (count : ℤ) → (count ≡ pos 0 → ⊥) → CountSays a k count → MayMove a k
says_moves a k count other said = record { from = λ s h. other (said.from s h); to = λ s h. other (said.to s h); inner = λ s e h j l. other (said.inner s e h j l) }

-- an action in lists of entries of cells, place by place
pub in_no_entry_behind : (a : Arrays) (k cell from to : ℕ) → ((e : ℕ) → e < length a.trans_lists → IsIn (entries_of a) cell e ↔ ((from ≤ e) × (e < to)))
    → (e : ℕ) → to ≤ e → IsIn (entries_of a) cell e → IsListed a a.trans_lists e k → ⊥
in_no_entry_behind a k cell from to entries e le of_cell listed' = elim (cases_lt e (length a.trans_lists)) [
  | inl less ↦ let r = (entries e less).0 of_cell in absurd (omega (arith, r))
  | inr ge ↦ none_listed a a.trans_lists e k ge listed'
]

pub same_cell : (a : Arrays) (place c cell : ℕ) → used_cell a place ≡ Some (pos cell) → used_cell a place ≡ Some (pos c) → c ≡ cell
same_cell a place c cell e f = ap natural same
  where
    one : Some (pos c) ≡ Some (pos cell)
    one = sym f ∙ e

    same : pos c ≡ pos cell
    same = let o = one in cc
