-- The array of keys is right.
use Rattle.std.proofs.Common.{◌≡◌, ℕ, zero, suc, ◌+◌, ◌*◌, ◌<◌, true, true≢false, not, ℤ, pos, ◌<ℤ◌, ◌≤ℤ◌, ◌+ℤ◌, List, [], ◌∷◌, length, map, Option, Some, None, refl, sym, ap, ◌∙◌, subst, arith, IsTrue, IfSome, IsSomeAnd, inl, inr, ◌⊎◌, length-append}
use Rattle.std.specs.Prelude.{slice_get}
use Rattle.std.specs.List.{AllByRecursion, flat_map}
use Rattle.std.specs.Option.{option_map}
use Rattle.std.proofs.lemmas.Option.{slice_get-map, slice_get_within}
use Rattle.std.proofs.lemmas.List.{length-map}
use Rattle.std.proofs.lemmas.List.Elements.{recursion_from_All}
use Rattle.std.proofs.lemmas.Int.{ints}
use Rattle.rl_types.specs.declared.alphabet.Alphabet.{Alphabet}
use Rattle.rl_types.specs.declared.alphabet.Alphabet.TheVariants.{Char, UnsignedChar, Short, UnsignedShort, Int, UnsignedInt}
use Rattle.rl_types.specs.declared.numbers.ActionId.{ActionId}
use Rattle.rl_types.specs.Alphabet.{has_key}
use Rattle.rl_fsm.proofs.PieceLaws.{before_or_not}
use Rattle.rl_arrays.specs.declared.arrays.Arrays.{Arrays}
use Rattle.rl_arrays.specs.declared.arrays.ArrayName.TheVariants as the
use Rattle.rl_arrays.specs.Words.{sum_before}
use Rattle.rl_arrays.specs.Sizes as sizes
use Rattle.rl_arrays.specs.Sizes.{IsClosing, keys_end, states, one_more}
use Rattle.rl_arrays.specs.KeyRules.{alphabet_of, IsSingle, IsEnd, IsKey, IsAbove, IsOutside, KeySays}
use Rattle.rl_arrays.specs.Valid.{FirstWrong}
use Rattle.rl_model.specs.declared.spec.Spec.{Spec}
use Rattle.rl_model.specs.WellFormed.{IsInAlphabet}
use Rattle.rl_minimal.specs.declared.state.MinEdge.{MinEdge}
use Rattle.rl_minimal.specs.declared.state.MinState.{MinState}
use Rattle.rl_minimal.specs.Minimal.{Minimal}
use Rattle.rl_minimal.specs.Sound.{IsMinimal, IsEdge, AreReads}
use Rattle.rl_layout.specs.declared.runs.Run.{Run}
use Rattle.rl_layout.specs.Runs.{laid_of, runs_of, is_single}
use Rattle.rl_layout.specs.Cells.{keys_of}
use Rattle.rl_layout.specs.Books.{lists_of, order_of}
use Rattle.rl_layout.specs.SpecArrays.{alphabet_number}
use Rattle.rl_layout.specs.Layout.{arrays_laid}
use Rattle.rl_layout.specs.Fits.{Fits, StateFits, EdgeFits}
use Rattle.rl_layout.proofs.ListLaws.{all_at, all_more, front_get, behind_get}
use Rattle.rl_layout.proofs.EdgeLaws.{Chain, chain_from}
use Rattle.rl_layout.proofs.GroupLaws.{IsRight, AreRight}
use Rattle.rl_layout.proofs.MergeLaws.{runs_right}
use Rattle.rl_layout.proofs.FoundLaws.{ends_of, low_of, same_ends_of_single}
use Rattle.rl_layout.proofs.Segments.{begins, in_segment}
use Rattle.rl_layout.proofs.SumLaws.{sum_is, begins_all, element}
use Rattle.rl_layout.proofs.OrderLaws.{Ascend, AreKeys, runs_ascend, ascend_filter, filter_get, ascend_at, one_run, runs_keys}
use Rattle.rl_layout.proofs.ValidBase.{if_at, right_of, some_then, pos_lt, states_are, key_widths, singles_at, ranges_at}
use Rattle.rl_layout.proofs.ValidCells.{data_of}

alphabet_told : (alphabet : Alphabet) → alphabet_of (alphabet_number alphabet) ≡ Some alphabet
alphabet_told Char = refl
alphabet_told UnsignedChar = refl
alphabet_told Short = refl
alphabet_told UnsignedShort = refl
alphabet_told Int = refl
alphabet_told UnsignedInt = refl

-- the ends of ranges: of each its low and its high
pub record EndOf (ranges : List Run) (p : ℕ) (x : ℤ) : Type 0 where
  pub place : ℕ
  pub run : Run
  pub there : slice_get ranges place ≡ Some run
  pub is : ((p ≡ 2 * place) × (x ≡ run.lo)) ⊎ ((p ≡ 2 * place + 1) × (x ≡ run.hi))

end_of : (ranges : List Run) (p : ℕ) (x : ℤ) → slice_get (flat_map ends_of ranges) p ≡ Some x → EndOf ranges p x
end_of [] p x e = absurd cc
end_of (r ∷ ranges) zero x e = record { place = 0; run = r; there = refl; is = inl (refl, (let s : x ≡ r.lo = cc in s)) }
end_of (r ∷ ranges) (suc zero) x e = record { place = 0; run = r; there = refl; is = inr (refl, (let s : x ≡ r.hi = cc in s)) }
end_of (r ∷ ranges) (suc (suc p)) x e =
    let k = end_of ranges p x e in
    record {
      place = suc k.place;
      run = k.run;
      there = k.there;
      is = elim k.is [ inl h ↦ let q = h.0 in inl (omega (arith, q), h.1) | inr h ↦ let q = h.0 in inr (omega (arith, q), h.1) ];
    }

at_most : (x y z : ℤ) → x ≤ℤ y → y <ℤ z → x <ℤ z
at_most x y z p q = omega (arith, ints)

-- a list of numbers that has a number behind another
above_at : (keys : List ℤ) (place : ℕ) (before key : ℤ) → slice_get keys place ≡ Some before → before <ℤ key → IsAbove keys (suc place) key
above_at keys place before key e l = if_at keys place (λ b. b <ℤ key) (λ x h. let same : x ≡ before = cc in subst (λ w. w <ℤ key) (sym same) l)

module _ (spec : Spec) (m : Minimal) (sound : IsMinimal m) (fits : Fits spec m) where
  abbrev pub lists : List (List ActionId)
  lists = lists_of m.states

  abbrev pub order : List ℕ
  order = order_of lists

  abbrev pub a : Arrays
  a = arrays_laid spec lists order m

  abbrev state_keys : List ℤ
  state_keys = flat_map keys_of m.states

  key_is : (key : ℤ) → has_key spec.alphabet key ≡ true → IsKey a key
  key_is key h = subst (λ o. IfSome o (λ alphabet. IsTrue (has_key alphabet key))) (sym (alphabet_told spec.alphabet)) h

  keys_end_is : keys_end a ≡ Some (pos (length state_keys))
  keys_end_is =
      ap (sum_before (sizes.keys_of a)) (states_are spec lists order m sound)
      ∙ sum_is (sizes.keys_of a) keys_of m.states (key_widths spec lists order m sound) (length m.states) (omega arith) ∙ ap (λ n. Some (pos n)) (begins_all keys_of m.states)

  -- ---- a state's keys

  module _ (q : ℕ) (s : MinState) (there : slice_get m.states q ≡ Some s) where
    abbrev start : ℕ
    start = begins keys_of m.states q

    abbrev singles : List Run
    singles = (laid_of s).singles

    abbrev ranges : List Run
    ranges = (laid_of s).ranges

    each : AllByRecursion (IsEdge m.states s) s.edges
    each = recursion_from_All (IsEdge m.states s) s.edges (sound.states q s there).edges.each

    reads : AllByRecursion AreReads s.edges
    reads = all_more (IsEdge m.states s) AreReads s.edges (λ e k. k.reads) each

    chain : Chain s.edges
    chain = chain_from s.edges (sound.states q s there).edges.ascending

    runs_up : Ascend (runs_of s.edges)
    runs_up = runs_ascend s.edges reads chain

    right : AreRight s.edges (runs_of s.edges)
    right = runs_right s.edges reads chain

    keyed : AllByRecursion (AreKeys spec.alphabet) (runs_of s.edges)
    keyed =
        let state = all_at (StateFits spec) m.states q s (recursion_from_All (StateFits spec) m.states fits.states) there in
        runs_keys spec.alphabet s.edges (all_more (EdgeFits spec) (λ (e : MinEdge). IsInAlphabet spec.alphabet e.range) s.edges (λ e f. f.keys) (recursion_from_All (EdgeFits spec) s.edges state.edges))

    sum_here : sum_before (sizes.keys_of a) q ≡ Some (pos start)
    sum_here = sum_is (sizes.keys_of a) keys_of m.states (key_widths spec lists order m sound) q (let l = slice_get_within m.states q s there in omega (arith, l))

    -- the key of a single, and an end of a range, by their places
    single_there : (p : ℕ) (r : Run) → slice_get singles p ≡ Some r → slice_get a.trans_keys (start + p) ≡ Some r.lo
    single_there p r e = front_get state_keys (pos 0 ∷ []) (start + p) r.lo (in_segment keys_of m.states q p s r.lo there (front_get (map low_of singles) (flat_map ends_of ranges) p r.lo (slice_get-map low_of singles p ∙ ap (option_map low_of) e)))

    end_there : (p : ℕ) (x : ℤ) → slice_get (flat_map ends_of ranges) p ≡ Some x → slice_get a.trans_keys (start + (length singles + p)) ≡ Some x
    end_there p x e =
        let n : length singles + p ≡ length (map low_of singles) + p = ap (λ n. n + p) (sym (length-map singles low_of)) in
        front_get state_keys (pos 0 ∷ []) (start + (length singles + p)) x (in_segment keys_of m.states q (length singles + p) s x there (ap (slice_get (keys_of s)) n ∙ behind_get (map low_of singles) (flat_map ends_of ranges) p ∙ e))

    ends_count : length (flat_map ends_of ranges) ≡ length ranges + length ranges
    ends_count = count ranges
      where
        count : (rs : List Run) → length (flat_map ends_of rs) ≡ length rs + length rs
        count [] = refl
        count (r ∷ rs) = let n = count rs in omega (arith, n)

    -- the run that a single key is of
    single_of : (p place : ℕ) → IsSingle a q p place → (r : Run) × (slice_get singles p ≡ Some r) × (place ≡ start + p)
    single_of p place h =
        let less : p < length singles = pos_lt p (length singles) (some_then (slice_get a.single_lengths q) (λ n. pos p <ℤ n) (pos (length singles)) (singles_at spec lists order m sound q s there) h.within) in
        let r = element singles p less in
        let at : pos place ≡ pos start +ℤ pos p = some_then (sum_before (sizes.keys_of a) q) (λ first. pos place ≡ first +ℤ pos p) (pos start) sum_here h.place_is in
        (r.0, r.1, same place (start + p) at)
      where
        same : (m n : ℕ) → pos m ≡ pos n → m ≡ n
        same m n e = cc

    end_at : (p place : ℕ) → IsEnd a q p place → (x : ℤ) × (slice_get (flat_map ends_of ranges) p ≡ Some x) × (place ≡ start + (length singles + p))
    end_at p place h =
        let n = ends_count in
        let less : p < length ranges + length ranges = pos_lt p (length ranges + length ranges) (some_then (slice_get a.range_lengths q) (λ n. pos p <ℤ (n +ℤ n)) (pos (length ranges)) (ranges_at spec lists order m sound q s there) h.within) in
        let x = element (flat_map ends_of ranges) p (omega (arith, n, less)) in
        let at : pos place ≡ (pos start +ℤ pos (length singles)) +ℤ pos p =
        some_then (slice_get a.single_lengths q) (λ singles. pos place ≡ (pos start +ℤ singles) +ℤ pos p) (pos (length singles)) (singles_at spec lists order m sound q s there)
        (some_then (sum_before (sizes.keys_of a) q) (λ first. IsSomeAnd (slice_get a.single_lengths q) (λ singles. pos place ≡ (first +ℤ singles) +ℤ pos p)) (pos start) sum_here h.place_is) in
        let same : place ≡ (start + length singles) + p = number place ((start + length singles) + p) at in
        (x.0, x.1, omega (arith, same))
      where
        number : (m n : ℕ) → pos m ≡ pos n → m ≡ n
        number m n e = cc

    -- what holds of the runs of the two kinds
    single_run : (p : ℕ) (r : Run) → slice_get singles p ≡ Some r → (j : ℕ) × (slice_get (runs_of s.edges) j ≡ Some r) × (is_single r ≡ true)
    single_run p r e = filter_get is_single (runs_of s.edges) p r e

    range_run : (p : ℕ) (r : Run) → slice_get ranges p ≡ Some r → (j : ℕ) × (slice_get (runs_of s.edges) j ≡ Some r) × (not (is_single r) ≡ true)
    range_run p r e = filter_get (λ r. not (is_single r)) (runs_of s.edges) p r e

    ordered_at : (j : ℕ) (r : Run) → slice_get (runs_of s.edges) j ≡ Some r → r.lo ≤ℤ r.hi
    ordered_at j r e = (all_at (IsRight s.edges) (runs_of s.edges) j r right e).ordered

    keys_at : (j : ℕ) (r : Run) → slice_get (runs_of s.edges) j ≡ Some r → AreKeys spec.alphabet r
    keys_at j r e = all_at (AreKeys spec.alphabet) (runs_of s.edges) j r keyed e

    single_key : (p : ℕ) (r : Run) → slice_get singles p ≡ Some r → IsKey a r.lo
    single_key p r e = let j = single_run p r e in key_is r.lo (keys_at j.0 r j.1).0

    end_key : (p : ℕ) (x : ℤ) → slice_get (flat_map ends_of ranges) p ≡ Some x → IsKey a x
    end_key p x e = by k.is
      where
        k : EndOf ranges p x
        k = end_of ranges p x e

        j : (j : ℕ) × (slice_get (runs_of s.edges) j ≡ Some k.run) × (not (is_single k.run) ≡ true)
        j = range_run k.place k.run k.there

        by : ((p ≡ 2 * k.place) × (x ≡ k.run.lo)) ⊎ ((p ≡ 2 * k.place + 1) × (x ≡ k.run.hi)) → IsKey a x
        by (inl h) = subst (IsKey a) (sym h.1) (key_is k.run.lo (keys_at j.0 k.run j.1).0)
        by (inr h) = subst (IsKey a) (sym h.1) (key_is k.run.hi (keys_at j.0 k.run j.1).1)

    -- the next single key is above
    singles_up : (p : ℕ) (r t : Run) → slice_get singles p ≡ Some r → slice_get singles (suc p) ≡ Some t → r.lo <ℤ t.lo
    singles_up p r t e h =
        let j = single_run p r e in
        at_most r.lo r.hi t.lo (ordered_at j.0 r j.1) (ascend_at singles p (suc p) r t (ascend_filter is_single (runs_of s.edges) runs_up) e h (omega arith))

    -- a range has two keys and more
    wide : (r : Run) → r.lo ≤ℤ r.hi → not (is_single r) ≡ true → r.lo <ℤ r.hi
    wide r l n = by (before_or_not r.lo r.hi)
      where
        same : (x y : ℤ) → x ≤ℤ y → y ≤ℤ x → x ≡ y
        same x y p q = omega (arith, ints)

        by : (r.lo <ℤ r.hi) ⊎ (r.hi ≤ℤ r.lo) → r.lo <ℤ r.hi
        by (inl h) = h
        by (inr g) = absurd (true≢false (sym n ∙ (λ i. not (same_ends_of_single r (same r.lo r.hi l g) i))))

    -- the next end is above
    ends_up : (p : ℕ) (x y : ℤ) → slice_get (flat_map ends_of ranges) p ≡ Some x → slice_get (flat_map ends_of ranges) (suc p) ≡ Some y → x <ℤ y
    ends_up p x y e h = by k.is l.is
      where
        k : EndOf ranges p x
        k = end_of ranges p x e

        l : EndOf ranges (suc p) y
        l = end_of ranges (suc p) y h

        j : (j : ℕ) × (slice_get (runs_of s.edges) j ≡ Some k.run) × (not (is_single k.run) ≡ true)
        j = range_run k.place k.run k.there

        same_run : k.place ≡ l.place → k.run ≡ l.run
        same_run z = let a = ap (slice_get ranges) (sym z) ∙ k.there in let b = l.there in cc

        by : ((p ≡ 2 * k.place) × (x ≡ k.run.lo)) ⊎ ((p ≡ 2 * k.place + 1) × (x ≡ k.run.hi)) → ((suc p ≡ 2 * l.place) × (y ≡ l.run.lo)) ⊎ ((suc p ≡ 2 * l.place + 1) × (y ≡ l.run.hi)) → x <ℤ y
        by (inl f) (inl g) = let u = f.0 in let v = g.0 in absurd (omega (arith, u, v))
        by (inr f) (inr g) = let u = f.0 in let v = g.0 in absurd (omega (arith, u, v))
        by (inl f) (inr g) =
            let u = f.0 in
            let v = g.0 in
            let z : k.place ≡ l.place = omega (arith, u, v) in
            subst (λ w. w <ℤ y) (sym f.1) (subst (λ w. k.run.lo <ℤ w) (sym (g.1 ∙ sym (ap (λ (r : Run). r.hi) (same_run z)))) (wide k.run (ordered_at j.0 k.run j.1) j.2))
        by (inr f) (inl g) =
            let u = f.0 in
            let v = g.0 in
            let z : k.place < l.place = omega (arith, u, v) in
            subst (λ w. w <ℤ y) (sym f.1) (subst (λ w. k.run.hi <ℤ w) (sym g.1) (ascend_at ranges k.place l.place k.run l.run (ascend_filter (λ r. not (is_single r)) (runs_of s.edges) runs_up) k.there l.there z))

    -- no single key lies in a range
    apart_here : (i p : ℕ) (x y : ℤ) (r : Run) → slice_get (flat_map ends_of ranges) (2 * i) ≡ Some x → slice_get (flat_map ends_of ranges) (2 * i + 1) ≡ Some y → slice_get singles p ≡ Some r → x ≤ℤ r.lo → r.lo ≤ℤ y → ⊥
    apart_here i p x y r e f h low high = by k.is l.is
      where
        k : EndOf ranges (2 * i) x
        k = end_of ranges (2 * i) x e

        l : EndOf ranges (2 * i + 1) y
        l = end_of ranges (2 * i + 1) y f

        by : ((2 * i ≡ 2 * k.place) × (x ≡ k.run.lo)) ⊎ ((2 * i ≡ 2 * k.place + 1) × (x ≡ k.run.hi)) → ((2 * i + 1 ≡ 2 * l.place) × (y ≡ l.run.lo)) ⊎ ((2 * i + 1 ≡ 2 * l.place + 1) × (y ≡ l.run.hi)) → ⊥
        by (inr f) g = let u = f.0 in omega (arith, u)
        by (inl f) (inl g) = let u = g.0 in omega (arith, u)
        by (inl f) (inr g) =
            let u = f.0 in
            let v = g.0 in
            let z : k.place ≡ l.place = omega (arith, u, v) in
            let same : k.run ≡ l.run = let a = ap (slice_get ranges) (sym z) ∙ k.there in let b = l.there in cc in
            let one = single_run p r h in
            let two = range_run k.place k.run k.there in
            let is : r ≡ k.run = one_run (runs_of s.edges) one.0 two.0 r k.run r.lo runs_up one.1 two.1 (self r.lo) (ordered_at one.0 r one.1) (subst (λ w. w ≤ℤ r.lo) f.1 low) (subst (λ w. r.lo ≤ℤ w) (g.1 ∙ ap (λ (t : Run). t.hi) (sym same)) high) in
            true≢false (sym two.2 ∙ (λ i. not (is_single (sym is i))) ∙ (λ i. not (one.2 i)))
          where
            self : (x : ℤ) → x ≤ℤ x
            self x = omega (arith, ints)

  -- ---- each key

  value_at : (place n : ℕ) (x y : ℤ) → slice_get a.trans_keys place ≡ Some x → place ≡ n → slice_get a.trans_keys n ≡ Some y → x ≡ y
  value_at place n x y e z h = let f : slice_get a.trans_keys place ≡ Some y = ap (slice_get a.trans_keys) z ∙ h in cc

  state_there : (q : ℕ) → q < states a → (s : MinState) × (slice_get m.states q ≡ Some s)
  state_there q l = element m.states q (subst (λ n. q < n) (states_are spec lists order m sound) l)

  key_says : (place : ℕ) (x : ℤ) → slice_get a.trans_keys place ≡ Some x → KeySays a place x
  key_says place x e = record { closing = closing; single = single; ascends = ascends; end = ends; disjoint = disjoint; apart = apart }
    where
      closing : IsClosing (keys_end a) place → x ≡ pos 0
      closing c = by (data_of state_keys place x (pos 0) e)
        where
          number : (m n : ℕ) → Some (pos m) ≡ Some (pos n) → m ≡ n
          number m n e = cc

          by : (slice_get state_keys place ≡ Some x) ⊎ ((place ≡ length state_keys) × (x ≡ pos 0)) → x ≡ pos 0
          by (inl h) = let l = slice_get_within state_keys place x h in let q = number place (length state_keys) (sym c ∙ keys_end_is) in absurd (omega (arith, l, q))
          by (inr h) = h.1

      single : (q p : ℕ) → IsSingle a q p place → IsKey a x
      single q p h =
          let s = state_there q h.state in
          let r = single_of q s.0 s.1 p place h in
          subst (IsKey a) (sym (value_at place (begins keys_of m.states q + p) x r.0.lo e r.2 (single_there q s.0 s.1 p r.0 r.1))) (single_key q s.0 s.1 p r.0 r.1)

      ascends : (q p : ℕ) → IsSingle a q (p + 1) place → IsAbove a.trans_keys place x
      ascends q p h =
          let s = state_there q h.state in
          let r = single_of q s.0 s.1 (p + 1) place h in
          let l = slice_get_within (laid_of s.0).singles (p + 1) r.0 r.1 in
          let before = element (laid_of s.0).singles p (omega (arith, l)) in
          let n = r.2 in
          let behind : place ≡ suc (begins keys_of m.states q + p) = omega (arith, n) in
          let next : slice_get (laid_of s.0).singles (suc p) ≡ Some r.0 = ap (slice_get (laid_of s.0).singles) (omega arith) ∙ r.1 in
          let value = value_at place (begins keys_of m.states q + (p + 1)) x r.0.lo e r.2 (single_there q s.0 s.1 (p + 1) r.0 r.1) in
          subst (λ k. IsAbove a.trans_keys k x) (sym behind) (above_at a.trans_keys (begins keys_of m.states q + p) before.0.lo x (single_there q s.0 s.1 p before.0 before.1) (subst (λ w. before.0.lo <ℤ w) (sym value) (singles_up q s.0 s.1 p before.0 r.0 before.1 next)))

      ends : (q p : ℕ) → IsEnd a q p place → IsKey a x
      ends q p h =
          let s = state_there q h.state in
          let r = end_at q s.0 s.1 p place h in
          subst (IsKey a) (sym (value_at place (begins keys_of m.states q + (length (laid_of s.0).singles + p)) x r.0 e r.2 (end_there q s.0 s.1 p r.0 r.1))) (end_key q s.0 s.1 p r.0 r.1)

      disjoint : (q p : ℕ) → IsEnd a q (p + 1) place → IsAbove a.trans_keys place x
      disjoint q p h =
          let s = state_there q h.state in
          let r = end_at q s.0 s.1 (p + 1) place h in
          let l = slice_get_within (flat_map ends_of (laid_of s.0).ranges) (p + 1) r.0 r.1 in
          let before = element (flat_map ends_of (laid_of s.0).ranges) p (omega (arith, l)) in
          let n = r.2 in
          let behind : place ≡ suc (begins keys_of m.states q + (length (laid_of s.0).singles + p)) = omega (arith, n) in
          let next : slice_get (flat_map ends_of (laid_of s.0).ranges) (suc p) ≡ Some r.0 = ap (slice_get (flat_map ends_of (laid_of s.0).ranges)) (omega arith) ∙ r.1 in
          let value = value_at place (begins keys_of m.states q + (length (laid_of s.0).singles + (p + 1))) x r.0 e r.2 (end_there q s.0 s.1 (p + 1) r.0 r.1) in
          subst (λ k. IsAbove a.trans_keys k x) (sym behind) (above_at a.trans_keys (begins keys_of m.states q + (length (laid_of s.0).singles + p)) before.0 x (end_there q s.0 s.1 p before.0 before.1) (subst (λ w. before.0 <ℤ w) (sym value) (ends_up q s.0 s.1 p before.0 r.0 before.1 next)))

      apart : (q i p other : ℕ) → IsEnd a q (2 * i) place → IsSingle a q p other → IsOutside a.trans_keys place x other
      apart q i p other h g =
          let s = state_there q h.state in
          let r = end_at q s.0 s.1 (2 * i) place h in
          let t = single_of q s.0 s.1 p other g in
          let value = value_at place (begins keys_of m.states q + (length (laid_of s.0).singles + 2 * i)) x r.0 e r.2 (end_there q s.0 s.1 (2 * i) r.0 r.1) in
          let l = slice_get_within (flat_map ends_of (laid_of s.0).ranges) (2 * i) r.0 r.1 in
          let n = ends_count q s.0 s.1 in
          let high = element (flat_map ends_of (laid_of s.0).ranges) (2 * i + 1) (omega (arith, l, n)) in
          let z = r.2 in
          let behind : place + 1 ≡ begins keys_of m.states q + (length (laid_of s.0).singles + (2 * i + 1)) = omega (arith, z) in
          if_at a.trans_keys (place + 1) (λ high. IfSome (slice_get a.trans_keys other) (λ key. x ≤ℤ key → key ≤ℤ high → ⊥)) (λ y f. if_at a.trans_keys other (λ key. x ≤ℤ key → key ≤ℤ y → ⊥) (λ k d low top.
          let top_is = value_at (place + 1) (begins keys_of m.states q + (length (laid_of s.0).singles + (2 * i + 1))) y high.0 f behind (end_there q s.0 s.1 (2 * i + 1) high.0 high.1) in
          let key_value = value_at other (begins keys_of m.states q + p) k t.0.lo d t.2 (single_there q s.0 s.1 p t.0 t.1) in
          apart_here q s.0 s.1 i p r.0 high.0 t.0 r.1 high.1 t.1 (subst (λ w. w ≤ℤ t.0.lo) value (subst (λ w. x ≤ℤ w) key_value low)) (subst (λ w. t.0.lo ≤ℤ w) top_is (subst (λ w. w ≤ℤ y) key_value top))))

  pub keys_right : FirstWrong a the.TransKeys None
  keys_right = right_of a the.TransKeys (due_is (keys_end a) (length state_keys) (length a.trans_keys) keys_end_is (let n = length-append state_keys (pos 0 ∷ []) in omega (arith, n))) (λ i. if_at a.trans_keys i (KeySays a i) (key_says i))
    where
      due_is : (end : Option ℤ) (n h : ℕ) → end ≡ Some (pos n) → h ≡ n + 1 → one_more end h ≡ h
      due_is end n h e q = ap (λ o. one_more o h) e ∙ sym q
