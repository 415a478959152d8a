-- The values of a section as it stands.
use Rattle.std.proofs.Common.{◌≡◌, ◌<◌, ◌≤◌, ◌+◌, ◌-◌, ℕ, zero, suc, List, [], ◌∷◌, length, map, drop, Option, Some, None, sym, ap, ◌∙◌, subst, refl, inl, inr, arith}
use Rattle.std.specs.Prelude.{ℤ, slice_get, IfSome, IsSomeAnd, max}
use Rattle.std.specs.List.{zip}
use Rattle.std.proofs.lemmas.Bool.{cases_lt}
use Rattle.rl_arrays.specs.declared.arrays.Arrays.{Arrays}
use Rattle.rl_arrays.specs.declared.arrays.ArrayName.{ArrayName}
use Rattle.rl_arrays.specs.declared.arrays.ArrayName.TheVariants as array
use Rattle.rl_arrays.specs.declared.arrays.BadValue.{BadValue}
use Rattle.rl_arrays.specs.declared.arrays.TheConstants.{ORDER}
use Rattle.rl_arrays.specs.Section.{entries}
use Rattle.rl_arrays.specs.Sizes.{has, due}
use Rattle.rl_arrays.specs.Words.{IfAt}
use Rattle.rl_arrays.specs.Valid.{IsVersioned, Valid, IsBad, SoundBefore, FirstWrong}
use Rattle.rl_cread.specs.Sections.{AreEntries, IsFirstBad}
use Rattle.rl_cread.specs.Values.{IsEntryAt}

-- elements of lists
none_past : {A : Type 0} (xs : List A) (i : ℕ) → length xs ≤ i → slice_get xs i ≡ None
none_past [] i le = refl
none_past (x ∷ xs) zero le = absurd (omega (arith, le))
none_past (x ∷ xs) (suc i) le = none_past xs i (omega (arith, le))

pub get_one : {A : Type 0} (xs : List A) (k : ℕ) → slice_get (drop 1 xs) k ≡ slice_get xs (k + 1)
get_one [] k = refl
get_one (x ∷ xs) k = let e : suc k ≡ k + 1 = omega arith in ap (slice_get (x ∷ xs)) e

length_one : {A : Type 0} (xs : List A) → length (drop 1 xs) ≡ length xs - 1
length_one [] = omega arith
length_one (x ∷ xs) = omega arith

words_length : (lines : List (List ℕ × ℤ)) → length (map (λ e. e.0) lines) ≡ length lines
words_length [] = refl
words_length (l ∷ lines) = let r = words_length lines in omega (arith, r)

both_first : {A : Type 0} (P Q : A → Type 0) (o : Option A) → IsSomeAnd o (λ x. P x × Q x) → IsSomeAnd o P
both_first P Q None h = h
both_first P Q (Some x) h = h.0

both_second : {A : Type 0} (P Q : A → Type 0) (o : Option A) → IsSomeAnd o (λ x. P x × Q x) → IfSome o Q
both_second P Q None h = tt
both_second P Q (Some x) h = h.1

both : {A : Type 0} (P Q : A → Type 0) (o : Option A) → IsSomeAnd o P → IfSome o Q → IsSomeAnd o (λ x. P x × Q x)
both P Q None h k = h
both P Q (Some x) h k = (h, k)

-- entry lines as many as the names, each with the name in its place, have these names
abbrev NamedAt : List (List ℕ) → ℕ → List ℕ × ℤ → Type 0
NamedAt names k entry = IsSomeAnd (slice_get names k) (λ name. entry.0 ≡ name)

abbrev StateAt : List ℤ → ℕ → List ℕ × ℤ → Type 0
StateAt states k entry = IfAt states k (λ state. entry.1 ≡ state)

all_named : (lines : List (List ℕ × ℤ)) (names : List (List ℕ)) → length lines ≡ length names
    → ((k : ℕ) → k < length lines → IsSomeAnd (slice_get lines k) (NamedAt names k)) → map (λ e. e.0) lines ≡ names
all_named [] [] e h = refl
all_named [] (n ∷ names) e h = absurd (omega (arith, e))
all_named (l ∷ lines) [] e h = absurd (omega (arith, e))
all_named (l ∷ lines) (n ∷ names) e h =
    let a : l.0 ≡ n = h 0 (omega arith) in
    let r = all_named lines names (omega (arith, e)) (λ k lt. h (suc k) (omega (arith, lt))) in
    ap (λ t. t ∷ map (λ e. e.0) lines) a ∙ ap (λ t. n ∷ t) r

named_at : (lines : List (List ℕ × ℤ)) (k : ℕ) → k < length lines → IsSomeAnd (slice_get lines k) (NamedAt (map (λ e. e.0) lines) k)
named_at [] k lt = absurd (omega arith)
named_at (l ∷ lines) zero lt = refl
named_at (l ∷ lines) (suc k) lt = named_at lines k (omega (arith, lt))

one_on : (lines : List (List ℕ × ℤ)) (names : List (List ℕ)) (k : ℕ)
    → IsSomeAnd (slice_get lines k) (NamedAt (drop 1 names) k) ≡ IsSomeAnd (slice_get lines k) (NamedAt names (k + 1))
one_on lines names k = ap (λ o. IsSomeAnd (slice_get lines k) (λ e. IsSomeAnd o (λ n. e.0 ≡ n))) (get_one names k)

-- entry lines as many as the names behind the first one, each of which agrees, are those of the arrays
pub entries_agree : (a : Arrays) (lines : List (List ℕ × ℤ)) → length lines ≡ length a.entry_names - 1
    → ((k : ℕ) → k < length lines → IsEntryAt lines a.entry_names a.entry_states k) → AreEntries a lines
entries_agree a lines e h = record {
  names = all_named lines (drop 1 a.entry_names) (let l = length_one a.entry_names in omega (arith, e, l))
      (λ k lt. subst (λ T. T) (sym (one_on lines a.entry_names k)) (both_first (NamedAt a.entry_names (k + 1)) (StateAt a.entry_states (k + 1)) (slice_get lines k) (h k lt)));
  states = λ i. elim (cases_lt i (length lines)) [
    | inl lt ↦ both_second (NamedAt a.entry_names (i + 1)) (StateAt a.entry_states (i + 1)) (slice_get lines i) (h i lt)
    | inr le ↦ subst (λ o. IfSome o (StateAt a.entry_states (i + 1))) (sym (none_past lines i le)) tt
  ];
}

-- and theirs are as many, and agree
pub agreeing_length : (a : Arrays) (lines : List (List ℕ × ℤ)) → AreEntries a lines → length lines ≡ length a.entry_names - 1
agreeing_length a lines h =
    let w = words_length lines in
    let l = length_one a.entry_names in
    let e = ap length h.names in
    omega (arith, w, l, e)

pub agreeing_at : (a : Arrays) (lines : List (List ℕ × ℤ)) (k : ℕ) → k < length lines → AreEntries a lines → IsEntryAt lines a.entry_names a.entry_states k
agreeing_at a lines k lt h =
    both (NamedAt a.entry_names (k + 1)) (StateAt a.entry_states (k + 1)) (slice_get lines k)
    (subst (λ T. T) (one_on lines a.entry_names k) (subst (λ names. IsSomeAnd (slice_get lines k) (NamedAt names k)) h.names (named_at lines k lt))) (h.states k)

-- of valid arrays, they are the entries
no_more : (m n : ℕ) → ((k : ℕ) → k < max m n → (k < m) × (k < n)) → m ≡ n
no_more m n h =
    elim (cases_lt m n) [
      | inl few ↦ let r = h m (omega (arith, few)) in absurd (omega (arith, r.0))
      | inr most ↦ elim (cases_lt n m) [
        | inl more ↦ let r = h n (omega (arith, more)) in absurd (omega (arith, r.1))
        | inr least ↦ omega (arith, most, least)
      ]
    ]

pub has_due : (a : Arrays) (x : ArrayName) → Valid a → has a x ≡ due a x
has_due a x v = no_more (has a x) (due a x) (λ k lt. let r = v.each x k lt in (r.there, r.due))

zip_is : (lines : List (List ℕ × ℤ)) (names : List (List ℕ)) (states : List ℤ) → map (λ e. e.0) lines ≡ names → length states ≡ length names
    → ((i : ℕ) → IfSome (slice_get lines i) (StateAt states i))
    → lines ≡ zip names states
zip_is [] [] states e l h = refl
zip_is [] (n ∷ names) states e l h = absurd cc
zip_is (x ∷ lines) [] states e l h = absurd cc
zip_is (x ∷ lines) (n ∷ names) [] e l h = absurd (omega (arith, l))
zip_is (x ∷ lines) (n ∷ names) (s ∷ states) e l h =
    let a : x.0 ≡ n = cc in
    let b : x.1 ≡ s = h 0 in
    let t : map (λ e. e.0) lines ≡ names = cc in
    ap (λ y. (y, x.1) ∷ lines) a ∙ ap (λ y. (n, y) ∷ lines) b ∙ ap (λ ys. (n, s) ∷ ys) (zip_is lines names states t (omega (arith, l)) (λ i. h (suc i)))

one_state : (states : List ℤ) (i : ℕ) (o : Option (List ℕ × ℤ)) → IfSome o (StateAt states (i + 1)) ≡ IfSome o (StateAt (drop 1 states) i)
one_state states i o = ap (λ q. IfSome o (λ e. IfSome q (λ s. e.1 ≡ s))) (sym (get_one states i))

entries_length : (a : Arrays) → Valid a → length (drop 1 a.entry_states) ≡ length (drop 1 a.entry_names)
entries_length a v =
    let e : length a.entry_states ≡ length a.entry_names = has_due a array.EntryStates v in
    let s = length_one a.entry_states in
    let n = length_one a.entry_names in
    omega (arith, e, s, n)

pub entries_are : (a : Arrays) (lines : List (List ℕ × ℤ)) → Valid a → AreEntries a lines → lines ≡ entries a
entries_are a lines v h =
    zip_is lines (drop 1 a.entry_names) (drop 1 a.entry_states) h.names (entries_length a v) (λ i. subst (λ T. T) (one_state a.entry_states i (slice_get lines i)) (h.states i))

zip_names : (names : List (List ℕ)) (states : List ℤ) → length states ≡ length names → map (λ e. e.0) (zip names states) ≡ names
zip_names [] states l = refl
zip_names (n ∷ names) [] l = absurd (omega (arith, l))
zip_names (n ∷ names) (s ∷ states) l = ap (λ t. n ∷ t) (zip_names names states (omega (arith, l)))

zip_states : (names : List (List ℕ)) (states : List ℤ) (i : ℕ) → IfSome (slice_get (zip names states) i) (StateAt states i)
zip_states [] states i = tt
zip_states (n ∷ names) [] i = tt
zip_states (n ∷ names) (s ∷ states) zero = refl
zip_states (n ∷ names) (s ∷ states) (suc i) = zip_states names states i

pub theirs : (a : Arrays) → Valid a → AreEntries a (entries a)
theirs a v = record {
  names = zip_names (drop 1 a.entry_names) (drop 1 a.entry_states) (entries_length a v);
  states = λ i. subst (λ T. T) (sym (one_state a.entry_states i (slice_get (entries a) i))) (zip_states (drop 1 a.entry_names) (drop 1 a.entry_states) i);
}

-- the places of arrays in their order
abbrev numbered : ArrayName → ℕ
numbered array.Actions = 0
numbered array.KeyOffsets = 1
numbered array.TransKeys = 2
numbered array.SingleLengths = 3
numbered array.RangeLengths = 4
numbered array.CellOffsets = 5
numbered array.CellUses = 6
numbered array.CellAsks = 7
numbered array.CellEntries = 8
numbered array.TransTargs = 9
numbered array.TransLists = 10
numbered array.FromLists = 11
numbered array.ToLists = 12
numbered array.EofLists = 13
numbered array.ErrorLists = 14
numbered array.AcceptLists = 15
numbered array.StateKinds = 16
numbered array.Homes = 17
numbered array.ActionNames = 18
numbered array.StmtFirsts = 19
numbered array.StmtCounts = 20
numbered array.StmtKinds = 21
numbered array.StmtOuter = 22
numbered array.StmtArgs = 23
numbered array.StmtBases = 24
numbered array.CondNames = 25
numbered array.EntryNames = 26
numbered array.EntryStates = 27

abbrev Runs : ℕ → List ArrayName → Type 0
Runs n [] = Unit {0}
Runs n (x ∷ xs) = (numbered x ≡ n) × Runs (n + 1) xs

order_runs : Runs 0 ORDER
order_runs = (refl, (refl, (refl, (refl, (refl, (refl, (refl, (refl, (refl, (refl, (refl, (refl, (refl, (refl, (refl, (refl, (refl, (refl, (refl, (refl, (refl, (refl, (refl, (refl, (refl, (refl, (refl, (refl, tt))))))))))))))))))))))))))))

run_at : (xs : List ArrayName) (n k : ℕ) (x : ArrayName) → Runs n xs → slice_get xs k ≡ Some x → numbered x ≡ n + k
run_at [] n k x h e = absurd cc
run_at (y ∷ xs) n zero x h e = let a : x ≡ y = cc in let b = ap numbered a ∙ h.0 in omega (arith, b)
run_at (y ∷ xs) n (suc k) x h e = let r = run_at xs (n + 1) k x h.1 e in omega (arith, r)

each_sound : (a : Arrays) → Valid a → (o : Option ArrayName) → IfSome o (λ x. FirstWrong a x None)
each_sound a v None = tt
each_sound a v (Some x) = v.each x

-- valid arrays with other entry lines
pub valid_disagrees : (a : Arrays) (lines : List (List ℕ × ℤ)) → Valid a → (AreEntries a lines → ⊥)
    → IsFirstBad a lines (record { array = array.EntryStates; index = 0 })
valid_disagrees a lines v ne = inr (ne, (λ k lt. each_sound a v (slice_get ORDER k)), refl)

-- arrays whose last one alone is wrong, with other entry lines
pub last_disagrees : (a : Arrays) (lines : List (List ℕ × ℤ)) (bad : BadValue) → IsVersioned a → IsBad a bad → bad.array ≡ array.EntryStates
    → (AreEntries a lines → ⊥)
    → IsFirstBad a lines (record { array = array.EntryStates; index = 0 })
last_disagrees a lines bad v (inl b) e ne = absurd (b.version v)
last_disagrees a lines bad v (inr b) e ne =
    let n = run_at ORDER 0 b.place bad.array order_runs b.array in
    let p : b.place ≡ 27 = omega (arith, n, ap numbered e) in
    inr (ne, subst (SoundBefore a) p b.before, refl)
