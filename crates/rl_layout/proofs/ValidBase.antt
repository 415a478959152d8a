-- The arrays by state are right: offsets, lengths, kinds and homes.
use Rattle.std.proofs.Common.{◌≡◌, ℕ, zero, suc, ◌+◌, ◌<◌, ◌≤◌, max, min, ℤ, pos, ◌<ℤ◌, ◌≤ℤ◌, List, [], ◌∷◌, length, map, Option, Some, None, refl, sym, ap, ◌∙◌, subst, arith, not, IfSome, IsSomeAnd}
use Rattle.std.specs.Prelude.{slice_get}
use Rattle.std.specs.List.{filter}
use Rattle.std.specs.Option.{option_map, option_map_or}
use Rattle.std.proofs.lemmas.Option.{slice_get-map, slice_get_within}
use Rattle.std.proofs.lemmas.List.{length-map}
use Rattle.std.proofs.lemmas.Int.{ints}
use Rattle.rl_types.specs.declared.numbers.ActionId.{ActionId}
use Rattle.rl_arrays.specs.declared.arrays.Arrays.{Arrays}
use Rattle.rl_arrays.specs.declared.arrays.ArrayName.{ArrayName}
use Rattle.rl_arrays.specs.declared.arrays.ArrayName.TheVariants as the
use Rattle.rl_arrays.specs.Words.{IfAt, IsBetween, plus}
use Rattle.rl_arrays.specs.Sizes as sizes
use Rattle.rl_arrays.specs.Sizes.{has, due, states}
use Rattle.rl_arrays.specs.Rules.{Says, HasKind, MayHaveKind, IsSum, LengthSays, KindSays, HomeSays}
use Rattle.rl_arrays.specs.Rules as rules
use Rattle.rl_arrays.specs.Valid.{FirstWrong}
use Rattle.rl_model.specs.declared.spec.Spec.{Spec}
use Rattle.rl_minimal.specs.declared.state.MinState.{MinState}
use Rattle.rl_minimal.specs.Minimal.{Minimal}
use Rattle.rl_minimal.specs.Sound.{IsMinimal}
use Rattle.rl_layout.specs.Runs.{laid_of, runs_of, is_single}
use Rattle.rl_layout.specs.Cells.{keys_of, key_count, cell_count, offsets}
use Rattle.rl_layout.specs.Layout.{arrays_laid}
use Rattle.rl_layout.proofs.Segments.{begins, offset_at}
use Rattle.rl_layout.proofs.StepLaws.{cells_in, count_is, key_count_is}
use Rattle.rl_layout.proofs.SumLaws.{AreLengths, sum_is, element}

pub length_offsets : (place : ℕ) (ns : List ℕ) → length (offsets place ns) ≡ length ns
length_offsets place [] = refl
length_offsets place (n ∷ ns) = ap suc (length_offsets (place + n) ns)

-- what an element of a map is made of
pub at_map : {X Y : Type 0} → (g : X → Y) (xs : List X) (i : ℕ) (y : Y) → slice_get (map g xs) i ≡ Some y → (x : X) × (slice_get xs i ≡ Some x) × (y ≡ g x)
at_map g [] i y e = absurd cc
at_map g (x ∷ xs) zero y e = let same : y ≡ g x = cc in (x, refl, same)
at_map g (x ∷ xs) (suc i) y e = at_map g xs i y e

pub if_at : {X : Type 0} → (xs : List X) (i : ℕ) (P : X → Type 0) → ((x : X) → slice_get xs i ≡ Some x → P x) → IfAt xs i P
if_at {X = X} xs i P f = by (slice_get xs i) f
  where
    by : (o : Option X) → ((x : X) → o ≡ Some x → P x) → IfSome o P
    by None f = tt
    by (Some x) f = f x refl

pub some_then : {X : Type 0} → (o : Option X) (P : X → Type 0) (x : X) → o ≡ Some x → IsSomeAnd o P → P x
some_then o P x e h = subst (λ w. IsSomeAnd w P) e h

pub right_of : (a : Arrays) (array : ArrayName) → due a array ≡ has a array → ((i : ℕ) → Says a array i) → FirstWrong a array None
right_of a array e f = λ k l. record { there = omega (arith, e, l); due = omega (arith, e, l); says = f k }

pub not_negative : (n : ℕ) → pos 0 ≤ℤ pos n
not_negative n = omega (arith, ints)

pub pos_le : (m n : ℕ) → pos m ≤ℤ pos n → m ≤ n
pos_le m n h = omega (arith, ints, h)

pub pos_lt : (m n : ℕ) → pos m <ℤ pos n → m < n
pos_lt m n h = omega (arith, ints, h)

pub le_pos : (m n : ℕ) → m ≤ n → pos m ≤ℤ pos n
le_pos m n h = omega (arith, ints)

pub lt_pos : (m n : ℕ) → m < n → pos m <ℤ pos n
lt_pos m n h = omega (arith, ints)

bounded : (n : ℕ) → 2 ≤ n → n ≤ 2147483647 → max 2 (min 2147483647 n) ≡ n
bounded n a b = omega arith

module _ (spec : Spec) (lists : List (List ActionId)) (order : List ℕ) (m : Minimal) (sound : IsMinimal m) where
  abbrev pub a : Arrays
  a = arrays_laid spec lists order m

  pub states_are : states a ≡ length m.states
  states_are = length_offsets 0 (map key_count m.states) ∙ length-map m.states key_count

  pub singles_at : (i : ℕ) (s : MinState) → slice_get m.states i ≡ Some s → slice_get a.single_lengths i ≡ Some (pos (length (laid_of s).singles))
  singles_at i s e = slice_get-map (λ s. pos (length (laid_of s).singles)) m.states i ∙ ap (option_map (λ s. pos (length (laid_of s).singles))) e

  pub ranges_at : (i : ℕ) (s : MinState) → slice_get m.states i ≡ Some s → slice_get a.range_lengths i ≡ Some (pos (length (laid_of s).ranges))
  ranges_at i s e = slice_get-map (λ s. pos (length (laid_of s).ranges)) m.states i ∙ ap (option_map (λ s. pos (length (laid_of s).ranges))) e

  pub kind_there : (i : ℕ) (s : MinState) → slice_get m.states i ≡ Some s → slice_get a.state_kinds i ≡ Some (pos s.kind)
  kind_there i s e = slice_get-map (λ s. pos s.kind) m.states i ∙ ap (option_map (λ s. pos s.kind)) e

  -- ---- widths

  pub key_widths : AreLengths (sizes.keys_of a) keys_of m.states
  key_widths i s e = (λ j. plus (singles_at i s e j) (plus (ranges_at i s e j) (ranges_at i s e j))) ∙ ap (λ n. Some (pos n)) (key_count_is s)

  pub cell_widths : AreLengths (sizes.uses_of a) cells_in m.states
  cell_widths i s e = (λ j. plus (singles_at i s e j) (ranges_at i s e j)) ∙ ap (λ n. Some (pos n)) (count_is s)

  -- ---- offsets

  offset_says : {Y : Type 0} → (width : ℕ → Option ℤ) (f : MinState → List Y) → AreLengths width f m.states → (i : ℕ) (x : ℤ) → slice_get (offsets 0 (map (λ z. length (f z)) m.states)) i ≡ Some x → IsSum width i x
  offset_says width f w i x e =
      let less : i < length m.states = within in
      let s = element m.states i less in
      let there = offset_at f m.states 0 i s.0 s.1 in
      let same : x ≡ pos (0 + begins f m.states i) = cc in
      let none : 0 + begins f m.states i ≡ begins f m.states i = omega arith in
      subst (λ o. IfSome o (λ sum. x ≡ sum)) (sym (sum_is width f m.states w i (omega arith))) (same ∙ ap (λ n. pos n) none)
    where
      within : i < length m.states
      within =
          let l = slice_get_within (offsets 0 (map (λ z. length (f z)) m.states)) i x e in
          let n = length_offsets 0 (map (λ z. length (f z)) m.states) in
          let k = length-map m.states (λ z. length (f z)) in
          omega (arith, l, n, k)

  pub key_offsets_right : FirstWrong a the.KeyOffsets None
  key_offsets_right = right_of a the.KeyOffsets (bounded (length a.key_offsets) (let n = states_are in let c = sound.counts.states in omega (arith, n, c)) (let n = states_are in let c = sound.counts.few in omega (arith, n, c)))
      (λ i. if_at a.key_offsets i (IsSum (sizes.keys_of a) i) (λ x e. offset_says (sizes.keys_of a) keys_of key_widths i x (sym (λ j. slice_get (offsets 0 (map (λ z. key_count_is z j) m.states)) i) ∙ e)))

  pub cell_offsets_right : FirstWrong a the.CellOffsets None
  cell_offsets_right = right_of a the.CellOffsets (states_are ∙ sym (length_offsets 0 (map cell_count m.states) ∙ length-map m.states cell_count))
      (λ i. if_at a.cell_offsets i (IsSum (sizes.uses_of a) i) (λ x e. offset_says (sizes.uses_of a) cells_in cell_widths i x (sym (λ j. slice_get (offsets 0 (map (λ z. count_is z j) m.states)) i) ∙ e)))

  -- ---- kinds

  -- the kind of a state that has one of these
  pub kind_has : (i : ℕ) (s : MinState) (low high : ℕ) → slice_get m.states i ≡ Some s → HasKind a i low high → (low ≤ s.kind) × (s.kind ≤ high)
  kind_has i s low high e h = let b = some_then (slice_get a.state_kinds i) (IsBetween low high) (pos s.kind) (kind_there i s e) h in (pos_le low s.kind b.0, pos_le s.kind high b.1)

  -- a state that is there has one of these
  pub kind_may : (i low high : ℕ) → ((s : MinState) → slice_get m.states i ≡ Some s → (low ≤ s.kind) × (s.kind ≤ high)) → MayHaveKind a i low high
  kind_may i low high f = if_at a.state_kinds i (IsBetween low high) (λ x e.
      let p = at_map (λ s. pos s.kind) m.states i x e in
      let b = f p.0 p.1 in
      subst (IsBetween low high) (sym p.2) (le_pos low p.0.kind b.0, le_pos p.0.kind high b.1))

  is_error : (i : ℕ) (s : MinState) → slice_get m.states i ≡ Some s → i ≡ 0 → slice_get m.states 0 ≡ Some s
  is_error i s e z = ap (slice_get m.states) (sym z) ∙ e

  pub kinds_right : FirstWrong a the.StateKinds None
  kinds_right = right_of a the.StateKinds (states_are ∙ sym (length-map m.states (λ s. pos s.kind))) (λ i. if_at a.state_kinds i (KindSays a i) (λ x e.
      let p = at_map (λ s. pos s.kind) m.states i x e in
      subst (KindSays a i) (sym p.2) (says i p.0 p.1)))
    where
      says : (i : ℕ) (s : MinState) → slice_get m.states i ≡ Some s → KindSays a i (pos s.kind)
      says i s e =
          let k = (sound.states i s e).kind in
          record {
            known = (le_pos 0 s.kind (omega arith), le_pos s.kind 4 k.known);
            error = λ z. ap (λ n. pos n) (sound.error s (is_error i s e z)).kind;
            start = λ q. le_pos m.first_final i (k.start (let f : s.kind ≡ 1 = cc in f));
            inner = λ q. lt_pos i m.first_final (k.inner (pos_le 2 s.kind q));
          }

  -- ---- lengths

  no_singles : (s : MinState) → s.edges ≡ [] → length (laid_of s).singles ≡ 0
  no_singles s e = λ i. length (filter is_single (runs_of (e i)))

  no_ranges : (s : MinState) → s.edges ≡ [] → length (laid_of s).ranges ≡ 0
  no_ranges s e = λ i. length (filter (λ r. not (is_single r)) (runs_of (e i)))

  length_says : (f : MinState → ℕ) → ((s : MinState) → s.edges ≡ [] → f s ≡ 0) → (i : ℕ) (x : ℤ) → slice_get (map (λ s. pos (f s)) m.states) i ≡ Some x → LengthSays a i x
  length_says f none i x e =
      let p = at_map (λ s. pos (f s)) m.states i x e in
      record {
        positive = subst (λ z. pos 0 ≤ℤ z) (sym p.2) (not_negative (f p.0));
        error = λ z. p.2 ∙ ap (λ n. pos n) (none p.0 (sound.error p.0 (is_error i p.0 p.1 z)).edges);
        closed = λ h. let k = kind_has i p.0 4 4 p.1 h in p.2 ∙ ap (λ n. pos n) (none p.0 ((sound.states i p.0 p.1).closed (omega (arith, k))));
      }

  pub single_lengths_right : FirstWrong a the.SingleLengths None
  single_lengths_right = right_of a the.SingleLengths (states_are ∙ sym (length-map m.states (λ s. pos (length (laid_of s).singles)))) (λ i. if_at a.single_lengths i (LengthSays a i) (length_says (λ s. length (laid_of s).singles) no_singles i))

  pub range_lengths_right : FirstWrong a the.RangeLengths None
  range_lengths_right = right_of a the.RangeLengths (states_are ∙ sym (length-map m.states (λ s. pos (length (laid_of s).ranges)))) (λ i. if_at a.range_lengths i (LengthSays a i) (length_says (λ s. length (laid_of s).ranges) no_ranges i))

  -- ---- homes

  told_there : (f : MinState → ℕ) (i : ℕ) (s : MinState) → slice_get m.states i ≡ Some s → option_map_or f (slice_get m.states i) 0 ≡ f s
  told_there f i s e = ap (λ o. option_map_or f o 0) e

  pub homes_right : FirstWrong a the.Homes None
  homes_right = right_of a the.Homes (states_are ∙ sym (length-map m.states (λ s. pos s.home))) (λ i. if_at a.homes i (HomeSays a i) (λ x e.
      let p = at_map (λ s. pos s.home) m.states i x e in
      subst (HomeSays a i) (sym p.2) (says i p.0 p.1)))
    where
      is_home : (i : ℕ) (s : MinState) → slice_get m.states i ≡ Some s → 0 < s.kind → rules.IsHome a (pos s.home)
      is_home i s e k =
          let h = (sound.states i s e).home in
          record {
            state = (not_negative s.home, lt_pos s.home (states a) (let n = states_are in let t = h.there k in omega (arith, n, t)));
            start = kind_may s.home 1 1 (λ t q. let o = told_there (λ s. s.kind) s.home t q in let one = h.start k in (omega (arith, o, one), omega (arith, o, one)));
            own = if_at a.homes s.home (λ other. other ≡ pos s.home) (λ x q. let p = at_map (λ s. pos s.home) m.states s.home x q in p.2 ∙ ap (λ n. pos n) (sym (told_there (λ s. s.home) s.home p.0 p.1) ∙ h.own k));
          }

      says : (i : ℕ) (s : MinState) → slice_get m.states i ≡ Some s → HomeSays a i (pos s.home)
      says i s e = record {
        plain = λ h. let k = kind_has i s 0 0 e h in ap (λ n. pos n) ((sound.states i s e).home.plain (omega (arith, k)));
        scanner = λ h. let k = kind_has i s 1 4 e h in is_home i s e (omega (arith, k));
      }
