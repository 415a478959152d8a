-- The numbers of classes, and the states that have them.
use Rattle.std.proofs.Common.{◌≡◌, ◌↔◌, ℕ, zero, suc, ◌+◌, ◌<◌, ◌≤◌, Bool, true, false, cond, List, [], ◌∷◌, ◌++◌, ◌⊎◌, map, length, Some, None, Option, option_map, slice_get, unwrap_or, take, drop, refl, ap, sym, ◌∙◌, subst, inl, inr, arith, true≢false}
use Rattle.std.specs.Prelude.{nat_le}
use Rattle.std.specs.List.{range_with_len}
use Rattle.std.proofs.lemmas.Bool.{cases_lt, le-leb, lt-leb, leb-true}
use Rattle.std.proofs.lemmas.List.{length-map}
use Rattle.std.proofs.lemmas.Option.{slice_get-map, slice_get_past}
use borrow.Author.Tests.{eqb-true}
use Rattle.rl_sets.specs.Sets.{In}
use Rattle.rl_automata.specs.Refused.{AreDifferent}
use Rattle.rl_explore.proofs.NumberLaws.{get_below, get_In, In_get, get_exists, get_front, get_at_end}
use Rattle.rl_automata.proofs.Congruence.{some_in, none_in}
use Rattle.rl_run.specs.Classes.{AreAlike}
use Rattle.rl_model.specs.Parts.{Context}
use Rattle.rl_minimal.specs.Minimal.{Minimal}
use Rattle.rl_minimal.specs.Machine.{min_machine}
use Rattle.rl_minimal.specs.Sound.{IsMinimal}
use Rattle.rl_refine.specs.Classes.{AreClasses}
use Rattle.rl_min.specs.Numbering.{with_class, with_classes, listed, number_in, class_at, IsNumbering}
use Rattle.rl_min.specs.Merged.{number_at, number_or}
use Rattle.rl_min.proofs.ListLaws.{added, added_from, extend, differ, new, with-append, number_there, number_of, number_apart, range_maps, map_once, count_from, range_stays}
use Rattle.rl_min.proofs.NumberingLaws.{drop_at}

-- ---- the front of a list

take_in : (xs : List ℕ) (n j y : ℕ) → slice_get xs j ≡ Some y → j < n → In y (take n xs)
take_in [] n j y e l = none_in y e
take_in (x ∷ xs) zero j y e l = absurd (omega arith)
take_in (x ∷ xs) (suc n) zero y e l = inl (some_in x y e)
take_in (x ∷ xs) (suc n) (suc j) y e l = inr (take_in xs n j y e (omega arith))

take_from : (xs : List ℕ) (n y : ℕ) → In y (take n xs) → (j : ℕ) × (j < n) × (slice_get xs j ≡ Some y)
take_from [] zero y i = absurd i
take_from [] (suc n) y i = absurd i
take_from (x ∷ xs) zero y i = absurd i
take_from (x ∷ xs) (suc n) y (inl e) = (0, omega arith, ap Some e)
take_from (x ∷ xs) (suc n) y (inr i) = let r = take_from xs n y i in let l : r.0 < n = r.1 in (suc r.0, omega arith, r.2)

front_rest : (xs : List ℕ) (n : ℕ) → take n xs ++ drop n xs ≡ xs
front_rest [] zero = refl
front_rest [] (suc n) = refl
front_rest (x ∷ xs) zero = refl
front_rest (x ∷ xs) (suc n) = ap (λ w. x ∷ w) (front_rest xs n)

no_le : (a b : ℕ) → b < a → nat_le a b ≡ true → ⊥
no_le a b l e = let le : a ≤ b = leb-true a b e in omega arith

module _ (m : Minimal) (minimal : IsMinimal m) (classes numbers states : List ℕ) (alike : AreClasses m classes) (n : IsNumbering classes numbers states) where
  abbrev pub c : ℕ → ℕ
  c i = number_at numbers i

  abbrev keys : List ℕ
  keys = listed classes

  keys_differ : AreDifferent keys
  keys_differ = differ classes [] tt

  pub keys_count : length (listed classes) ≡ length states
  keys_count = ap length (sym n.picked.each) ∙ length-map states (class_at classes)

  -- the class of a state, which is listed
  class_of : (i : ℕ) → i < length m.states → (x : ℕ) × (slice_get classes i ≡ Some x)
  class_of i h = let w : length classes ≡ length m.states = alike.whole in get_exists classes i (omega arith)

  is_listed : (i x : ℕ) → slice_get classes i ≡ Some x → In x keys
  is_listed i x e = added classes [] x (get_In classes i x e)

  number_is : (i x : ℕ) → slice_get classes i ≡ Some x → c i ≡ number_in keys x
  number_is i x e =
      ap (λ w. unwrap_or (slice_get w i) 0) n.counted ∙ ap (λ o. unwrap_or o 0) (slice_get-map (number_in keys) classes i) ∙ ap (λ o. unwrap_or (option_map (number_in keys) o) 0) e

  get_number : (i x : ℕ) → slice_get classes i ≡ Some x → slice_get keys (c i) ≡ Some x
  get_number i x e = ap (slice_get keys) (number_is i x e) ∙ number_there keys x (is_listed i x e)

  pub within : (i : ℕ) → i < length m.states → c i < length states
  within i h =
      let x = class_of i h in
      let l : c i < length keys = get_below keys (c i) x.0 (get_number i x.0 x.1) in
      let e : length keys ≡ length states = keys_count in
      omega arith

  pub same_alike : (context : Context) (i j : ℕ) → i < length m.states → j < length m.states → c i ≡ c j → AreAlike (min_machine m context) i j
  same_alike context i j a b e =
      let x = class_of i a in
      let y = class_of j b in
      let same : x.0 ≡ y.0 = some_in x.0 y.0 (sym (get_number i x.0 x.1) ∙ ap (slice_get keys) e ∙ get_number j y.0 y.1) in
      (alike.alike context i j a b).0 (ap (λ o. unwrap_or o 0) x.1 ∙ same ∙ ap (λ o. unwrap_or o 0) (sym y.1))

  pub alike_same : (context : Context) (i j : ℕ) → i < length m.states → j < length m.states → AreAlike (min_machine m context) i j → c i ≡ c j
  alike_same context i j a b s =
      let x = class_of i a in
      let y = class_of j b in
      let same : x.0 ≡ y.0 = ap (λ o. unwrap_or o 0) (sym x.1) ∙ (alike.alike context i j a b).1 s ∙ ap (λ o. unwrap_or o 0) y.1 in
      number_is i x.0 x.1 ∙ ap (number_in keys) same ∙ sym (number_is j y.0 y.1)

  pub picks : (p j : ℕ) → slice_get states p ≡ Some j → (j < length m.states) × (c j ≡ p)
  picks p j e =
      let l : j < length classes = n.picked.there j (get_In states p j e) in
      let w : length classes ≡ length m.states = alike.whole in
      let x = get_exists classes j l in
      let at : slice_get keys p ≡ Some x.0 =
      ap (λ w. slice_get w p) (sym n.picked.each) ∙ slice_get-map (class_at classes) states p ∙ ap (option_map (class_at classes)) e ∙ ap (λ o. Some (unwrap_or o 0)) x.1 in
      (omega arith, number_is j x.0 x.1 ∙ number_of keys p x.0 keys_differ at)

  some_states : 0 < length m.states
  some_states = let h : 2 ≤ length m.states = minimal.counts.states in omega arith

  pub failed : c 0 ≡ 0
  failed =
      let x = class_of 0 some_states in
      let first : classes ≡ x.0 ∷ drop 1 classes = drop_at classes 0 x.0 x.1 in
      let more = extend (drop 1 classes) (x.0 ∷ []) in
      let found : keys ≡ x.0 ∷ more.0 = ap listed first ∙ more.1 in
      number_is 0 x.0 x.1 ∙ number_of keys 0 x.0 keys_differ (ap (λ w. slice_get w 0) found)

  pub alone : (i : ℕ) → Context → i < length m.states → c i ≡ 0 → i ≡ 0
  alone i context h e = let s = same_alike context i 0 h some_states (e ∙ sym failed) in eqb-true i 0 (sym (s.0 []).is_failed)

  pub order : with_classes [] (map c (range_with_len 0 (length m.states))) ≡ range_with_len 0 (length states)
  order =
      ap (λ k. with_classes [] (map c (range_with_len 0 k))) (sym alike.whole ∙ sym (ap length n.counted ∙ length-map classes (number_in keys)))
      ∙ ap (with_classes []) (range_maps c 0 numbers (λ k x e. ap c (zero_plus k) ∙ ap (λ o. unwrap_or o 0) e) ∙ n.counted) ∙ sym (map_once (number_in keys) classes)
      ∙ ap (with_classes []) (count_from (number_in keys) 0 keys (λ k x e. number_of keys k x keys_differ e ∙ sym (zero_plus k)))
      ∙ range_stays (length keys) 0 ∙ ap (range_with_len 0) keys_count
    where
      zero_plus : (k : ℕ) → 0 + k ≡ k
      zero_plus k = omega arith

  -- ---- those that are not final come first

  final_alike : Context → (i j : ℕ) → i < length m.states → j < length m.states → c i ≡ c j → nat_le m.first_final j ≡ nat_le m.first_final i
  final_alike context i j a b e = ((same_alike context i j a b e).0 []).final

  module _ (context : Context) (ff : ℕ) (is_first : m.first_final ≡ ff) (inside : ff < length m.states) where
    abbrev plain : List ℕ
    plain = listed (take ff classes)

    first : ℕ
    first = (class_of ff inside).0

    is_plain : (i : ℕ) → (i < length m.states) → (y : ℕ) → slice_get classes i ≡ Some y → ff ≤ i → In y plain → ⊥
    is_plain i h y e le k = by (added_from (take ff classes) [] y k)
      where
        by : In y [] ⊎ In y (take ff classes) → ⊥
        by (inl z) = z
        by (inr t) =
            let j = take_from classes ff y t in
            let l : j.0 < ff = j.1 in
            let low : j.0 < length m.states = omega arith in
            let same : c j.0 ≡ c i = number_is j.0 y j.2 ∙ sym (number_is i y e) in
            let f = final_alike context j.0 i low h same in
            true≢false (sym (le-leb ff i le) ∙ ap (λ w. nat_le w i) (sym is_first) ∙ f ∙ ap (λ w. nat_le w j.0) is_first ∙ lt-leb ff j.0 l)

    keys_are : (x : ℕ) → slice_get classes ff ≡ Some x → keys ≡ with_classes (with_class plain x) (drop (suc ff) classes)
    keys_are x e = ap listed (sym (front_rest classes ff)) ∙ with-append (take ff classes) [] (drop ff classes) ∙ ap (with_classes plain) (drop_at classes ff x e)

    keys_split : (x : ℕ) → slice_get classes ff ≡ Some x → (more : List ℕ) × (keys ≡ (plain ++ x ∷ []) ++ more)
    keys_split x e =
        let apart : with_class plain x ≡ plain ++ x ∷ [] = new plain x (is_plain ff inside x e (omega arith)) in
        let more = extend (drop (suc ff) classes) (plain ++ x ∷ []) in
        (more.0, keys_are x e ∙ ap (λ w. with_classes w (drop (suc ff) classes)) apart ∙ more.1)

    in_front : (k z : ℕ) → slice_get plain k ≡ Some z → slice_get keys k ≡ Some z
    in_front k z e =
        let x = class_of ff inside in
        let s = keys_split x.0 x.1 in
        ap (λ w. slice_get w k) s.1 ∙ get_front (plain ++ x.0 ∷ []) s.0 k z (get_front plain (x.0 ∷ []) k z e)

    first_is : c ff ≡ length plain
    first_is =
        let x = class_of ff inside in
        let s = keys_split x.0 x.1 in
        number_is ff x.0 x.1 ∙ number_of keys (length plain) x.0 keys_differ (ap (λ w. slice_get w (length plain)) s.1 ∙ get_front (plain ++ x.0 ∷ []) s.0 (length plain) x.0 (get_at_end plain x.0))

    low_is : (i : ℕ) → i < length m.states → i < ff → c i < c ff
    low_is i h l =
        let y = class_of i h in
        let k = In_get plain y.0 (added (take ff classes) [] y.0 (take_in classes ff i y.0 y.1 l)) in
        let at : c i ≡ k.0 = number_is i y.0 y.1 ∙ number_of keys k.0 y.0 keys_differ (in_front k.0 y.0 k.1) in
        let low : k.0 < length plain = get_below plain k.0 y.0 k.1 in
        let f : c ff ≡ length plain = first_is in
        omega arith

    high_is : (i : ℕ) → i < length m.states → ff ≤ i → c ff ≤ c i
    high_is i h le = elim (cases_lt (c i) (length plain)) [
      | inl l ↦
          let y = class_of i h in
          let z = get_exists plain (c i) l in
          let same : z.0 ≡ y.0 = some_in z.0 y.0 (sym (in_front (c i) z.0 z.1) ∙ get_number i y.0 y.1) in
          absurd (is_plain i h y.0 y.1 le (subst (λ w. In w plain) same (get_In plain (c i) z.0 z.1)))
      | inr g ↦ let f : c ff ≡ length plain = first_is in omega arith
    ]

    tests_same : (i : ℕ) → i < length m.states → nat_le (c ff) (c i) ≡ nat_le ff i
    tests_same i h = elim (cases_lt i ff) [
      | inl l ↦ lt-leb (c ff) (c i) (low_is i h l) ∙ sym (lt-leb ff i l)
      | inr g ↦ le-leb (c ff) (c i) (high_is i h g) ∙ sym (le-leb ff i g)
    ]

  abbrev pub first_final : ℕ
  first_final = number_or numbers m.first_final (length states)

  numbers_count : length numbers ≡ length m.states
  numbers_count = ap length n.counted ∙ length-map classes (number_in keys) ∙ alike.whole

  first_inside : (ff : ℕ) → ff < length m.states → number_or numbers ff (length states) ≡ c ff
  first_inside ff h =
      let w : length numbers ≡ length m.states = numbers_count in
      let x = get_exists numbers ff (omega arith) in
      ap (λ o. unwrap_or o (length states)) x.1 ∙ ap (λ o. unwrap_or o 0) (sym x.1)

  first_past : (ff : ℕ) → length m.states ≤ ff → number_or numbers ff (length states) ≡ length states
  first_past ff h =
      let w : length numbers ≡ length m.states = numbers_count in
      ap (λ o. unwrap_or o (length states)) (slice_get_past numbers ff (omega arith))

  pub final_same : Context → (i : ℕ) → i < length m.states → nat_le first_final (c i) ≡ nat_le m.first_final i
  final_same context i h = elim (cases_lt m.first_final (length m.states)) [
    | inl l ↦ ap (λ w. nat_le w (c i)) (first_inside m.first_final l) ∙ tests_same context m.first_final refl l i h
    | inr g ↦
        let top : c i < length states = within i h in
        let low : i < m.first_final = omega arith in
        ap (λ w. nat_le w (c i)) (first_past m.first_final g) ∙ lt-leb (length states) (c i) top ∙ sym (lt-leb m.first_final i low)
  ]

  pub first_within : first_final ≤ length states
  first_within = elim (cases_lt m.first_final (length m.states)) [
    | inl l ↦ let e : first_final ≡ c m.first_final = first_inside m.first_final l in let t : c m.first_final < length states = within m.first_final l in omega arith
    | inr g ↦ let e : first_final ≡ length states = first_past m.first_final g in omega arith
  ]

  pub first_alive : Context → 1 ≤ length states → 1 ≤ first_final
  first_alive context some = elim (cases_lt m.first_final (length m.states)) [
    | inl l ↦
        let e : first_final ≡ c m.first_final = first_inside m.first_final l in
        let f : 1 ≤ m.first_final = minimal.counts.final in
        elim (cases_lt 0 (c m.first_final)) [
          | inl t ↦ omega arith
          | inr z ↦ let a : m.first_final ≡ 0 = alone m.first_final context l (omega arith) in absurd (omega arith)
        ]
    | inr g ↦ let e : first_final ≡ length states = first_past m.first_final g in omega arith
  ]

  pub alive : Context → (i : ℕ) → i < length m.states → 0 < i → 0 < c i
  alive context i h l = elim (cases_lt 0 (c i)) [
    | inl t ↦ t
    | inr z ↦ let a : i ≡ 0 = alone i context h (omega arith) in absurd (omega arith)
  ]
