-- The edges at the pieces say what the automaton does.
use Rattle.std.proofs.Common.{◌≡◌, ℕ, zero, suc, ◌+◌, ◌<◌, ◌≤◌, ℤ, ◌≤ℤ◌, ◌<ℤ◌, Bool, true, false, cond, ◌&&◌, List, [], ◌∷◌, ◌++◌, ◌⊎◌, Option, Some, None, option_map, map, refl, ap, sym, ◌∙◌, subst, inl, inr, bit_and, bit_or, nat_eq, arith, is_some, true≢false, ◌||◌, nat_lt, int_lt, add-zero, zero-add}
use native.Mathlib.Decide.{dec_lt}
use borrow.Author.Tests.{lt-ltb, ltb-true, eq-eqb, eqb-true}
use Rattle.std.specs.Int.Bits.{or_self}
use Rattle.std.specs.Ordering.{int_eq}
use Rattle.std.specs.List.{list_any, range_with_len}
use Rattle.std.proofs.lemmas.Int.{ints}
use Rattle.std.proofs.lemmas.Nat.{and_le_r}
use Rattle.rl_types.specs.declared.numbers.Letter.{Letter}
use Rattle.rl_types.specs.KeyRange.{Range, in_range}
use Rattle.rl_sets.specs.Sets.{In}
use Rattle.rl_sets.proofs.SetLaws.{In-append_cases, any_true, any_from, both_ways}
use Rattle.rl_automata.specs.declared.moves.Move.{Move}
use Rattle.rl_automata.specs.Auto.{Auto, on_part, quiet, steps_at, every_truths}
use Rattle.rl_fsm.specs.Reads.{Reads, takes, own_asks, own_letter, asks_at, is_before, same_range, ascend}
use Rattle.rl_fsm.specs.Pieces.{AreApart, ArePieces}
use Rattle.rl_fsm.proofs.Bits.{or_or, or_none, and_and}
use Rattle.rl_fsm.proofs.PieceLaws.{lt_to, below_range, above_range, range_low, range_high}
use Rattle.rl_explore.specs.declared.found.Found.{Found}
use Rattle.rl_explore.specs.Ranges.{at, InSame, Outside, AreRanges}
use Rattle.rl_explore.specs.Rows.{found_reads, found_move, found_for, IsFound, IsRow, is_within, edge_at, edges_below, edges_on, row_edges, jams_at, jams_below, jams_on, row_jams}

-- ---- lists of edges

module _ {S : Type 0} where
  -- a search through one list and then another
  abbrev or_else : Option (Found S) → Option (Found S) → Option (Found S)
  or_else None o = o
  or_else (Some f) o = Some f

  found-append : (l : Letter) (fs gs : List (Found S)) → found_for l (fs ++ gs) ≡ or_else (found_for l fs) (found_for l gs)
  found-append l [] gs = refl
  found-append l (f ∷ fs) gs =
      elim (takes l (found_reads f)) as (λ b. cond b (Some f) (found_for l (fs ++ gs)) ≡ or_else (cond b (Some f) (found_for l fs)) (found_for l gs)) [
        | true ↦ refl
        | false ↦ found-append l fs gs
      ]

  -- what the edges ask at a key
  abbrev found_asks : ℤ → List (Found S) → ℕ
  found_asks k fs = asks_at k (map found_reads fs)

  asks-append : (k : ℤ) (fs gs : List (Found S)) → found_asks k (fs ++ gs) ≡ bit_or (found_asks k fs) (found_asks k gs)
  asks-append k [] gs = refl
  asks-append k (f ∷ fs) gs = ap (bit_or (own_asks k (found_reads f))) (asks-append k fs gs) ∙ sym (or_or (own_asks k (found_reads f)) (found_asks k fs) (found_asks k gs))

  -- the move of the edge that a letter finds
  abbrev moved : Letter → List (Found S) → Option (Move S)
  moved l fs = option_map found_move (found_for l fs)

  abbrev or_move : Option (Move S) → Option (Move S) → Option (Move S)
  or_move None o = o
  or_move (Some m) o = Some m

  or_move-none : (o : Option (Move S)) → or_move o None ≡ o
  or_move-none None = refl
  or_move-none (Some m) = refl

  moved-append : (l : Letter) (fs gs : List (Found S)) → moved l (fs ++ gs) ≡ or_move (moved l fs) (moved l gs)
  moved-append l fs gs = ap (option_map found_move) (found-append l fs gs) ∙ go (found_for l fs) (found_for l gs)
    where
      go : (a b : Option (Found S)) → option_map found_move (or_else a b) ≡ or_move (option_map found_move a) (option_map found_move b)
      go None b = refl
      go (Some f) b = refl

-- ---- numbers below a bound

below_or_at : (i n : ℕ) → i < suc n → (i < n) ⊎ (i ≡ n)
below_or_at i n h = elim (dec_lt i n) [ yes l ↦ inl l | no k ↦ inr (omega arith) ]

not_below : (n m : ℕ) → m ≤ n → nat_lt n m ≡ false
not_below n m h = (elim (nat_lt n m) as (λ b. nat_lt n m ≡ b → b ≡ false) [
  | true ↦ λ e. let l : n < m = ltb-true n m e in absurd (omega arith)
  | false ↦ λ e. refl
]) refl

or_true : (b : Bool) → (b || true) ≡ true
or_true true = refl
or_true false = refl

and_false : (b : Bool) → (b && false) ≡ false
and_false true = refl
and_false false = refl

second : (a b : Bool) → (a && b) ≡ true → b ≡ true
second true b e = e
second false b e = absurd (true≢false (sym e))

first_of : (a b : Bool) → (a && b) ≡ true → a ≡ true
first_of true b e = refl
first_of false b e = absurd (true≢false (sym e))

-- some number below n passes
abbrev any_below : (ℕ → Bool) → ℕ → Bool
any_below p zero = false
any_below p (suc n) = any_below p n || p n

any_below_true : (p : ℕ → Bool) (n t : ℕ) → t < n → p t ≡ true → any_below p n ≡ true
any_below_true p zero t h e = absurd (omega arith)
any_below_true p (suc n) t h e =
    elim (below_or_at t n h) [
      | inl l ↦ ap (λ b. b || p n) (any_below_true p n t l e)
      | inr q ↦ ap (λ b. any_below p n || b) (ap p (sym q) ∙ e) ∙ or_true (any_below p n)
    ]

any_below_from : (p : ℕ → Bool) (n : ℕ) → any_below p n ≡ true → (t : ℕ) × (t < n) × (p t ≡ true)
any_below_from p zero e = absurd (true≢false (sym e))
any_below_from p (suc n) e =
    (elim (any_below p n) as (λ b. any_below p n ≡ b → (b || p n) ≡ true → (t : ℕ) × (t < suc n) × (p t ≡ true)) [
      | true ↦ λ q _. let r = any_below_from p n q in (r.0, below_suc r.0 n r.1, r.2)
      | false ↦ λ _ q. (n, last n, q)
    ]) refl e
  where
    below_suc : (t n : ℕ) → t < n → t < suc n
    below_suc t n h = omega arith

    last : (n : ℕ) → n < suc n
    last n = omega arith

any_range_true : (p : ℕ → Bool) (a n t : ℕ) → t < n → p (a + t) ≡ true → list_any p (range_with_len a n) ≡ true
any_range_true p a zero t h e = absurd (omega arith)
any_range_true p a (suc n) zero h e = ap (λ b. b || list_any p (range_with_len (a + 1) n)) (ap p (sym (add-zero a)) ∙ e)
any_range_true p a (suc n) (suc t) h e =
    ap (λ b. p a || b) (any_range_true p (a + 1) n t (omega arith) (ap p (next a t) ∙ e)) ∙ or_true (p a)
  where
    next : (a t : ℕ) → (a + 1) + t ≡ a + suc t
    next a t = omega arith

any_range_from : (p : ℕ → Bool) (a n : ℕ) → list_any p (range_with_len a n) ≡ true → (t : ℕ) × (t < n) × (p (a + t) ≡ true)
any_range_from p a zero e = absurd (true≢false (sym e))
any_range_from p a (suc n) e =
    (elim (p a) as (λ b. p a ≡ b → (b || list_any p (range_with_len (a + 1) n)) ≡ true → (t : ℕ) × (t < suc n) × (p (a + t) ≡ true)) [
      | true ↦ λ q _. (0, first n, ap p (add-zero a) ∙ q)
      | false ↦ λ _ q. let r = any_range_from p (a + 1) n q in (suc r.0, up r.0 n r.1, ap p (next a r.0) ∙ r.2)
    ]) refl e
  where
    first : (n : ℕ) → 0 < suc n
    first n = omega arith

    up : (t n : ℕ) → t < n → suc t < suc n
    up t n h = omega arith

    next : (a t : ℕ) → a + suc t ≡ (a + 1) + t
    next a t = omega arith

up_to : (u a : ℕ) → u ≤ a → u < a + 1
up_to u a h = omega arith

-- ---- the edges of one piece

module _ {S : Type 0} (A : Auto S) (c : S) (r : Range) where
  abbrev edge_of : ℕ → Move S → Found S
  edge_of t m = record { range = r; asks = record { 0 = A.asked c r.lo }; truths = record { 0 = t }; to = m.to; carry = m.carry }

  -- outside the range nothing is found
  edge_outside : (l : Letter) (t : ℕ) → in_range l.key r ≡ false → found_for l (edge_at A c r t) ≡ None
  edge_outside l t out =
      elim (is_within t (A.asked c r.lo)) as (λ b. found_for l (cond b (on_part [] (λ (m : Move S). edge_of t m ∷ []) (A.step c (at r.lo t))) []) ≡ None) [
        | false ↦ refl
        | true ↦ elim (A.step c (at r.lo t)) as (λ o. found_for l (on_part [] (λ (m : Move S). edge_of t m ∷ []) o) ≡ None) [
          | None ↦ refl
          | Some m ↦ ap (λ b. cond (b && nat_eq (bit_and l.truths (A.asked c r.lo)) t) (Some (edge_of t m)) None) out
        ]
      ]

  below_outside : (l : Letter) (n : ℕ) → in_range l.key r ≡ false → found_for l (edges_below A c r n) ≡ None
  unfolding edges_below
  below_outside l zero out = refl
  below_outside l (suc n) out = found-append l (edges_below A c r n) (edge_at A c r n) ∙ (λ i. or_else (below_outside l n out i) (edge_outside l n out i))

  -- whether there is an edge for these truths
  abbrev emits : ℕ → Bool
  emits t = is_within t (A.asked c r.lo) && is_some (A.step c (at r.lo t))

  asks_outside : (k : ℤ) (t : ℕ) → in_range k r ≡ false → found_asks k (edge_at A c r t) ≡ 0
  asks_outside k t out =
      elim (is_within t (A.asked c r.lo)) as (λ b. found_asks k (cond b (on_part [] (λ (m : Move S). edge_of t m ∷ []) (A.step c (at r.lo t))) []) ≡ 0) [
        | false ↦ refl
        | true ↦ elim (A.step c (at r.lo t)) as (λ o. found_asks k (on_part [] (λ (m : Move S). edge_of t m ∷ []) o) ≡ 0) [
          | None ↦ refl
          | Some m ↦ ap (λ b. bit_or (cond b (A.asked c r.lo) 0) 0) out
        ]
      ]

  asks_inside : (k : ℤ) (t : ℕ) → in_range k r ≡ true → found_asks k (edge_at A c r t) ≡ cond (emits t) (A.asked c r.lo) 0
  asks_inside k t in_it =
      elim (is_within t (A.asked c r.lo)) as (λ b. found_asks k (cond b (on_part [] (λ (m : Move S). edge_of t m ∷ []) (A.step c (at r.lo t))) []) ≡ cond (b && is_some (A.step c (at r.lo t))) (A.asked c r.lo) 0) [
        | false ↦ refl
        | true ↦ elim (A.step c (at r.lo t)) as (λ o. found_asks k (on_part [] (λ (m : Move S). edge_of t m ∷ []) o) ≡ cond (is_some o) (A.asked c r.lo) 0) [
          | None ↦ refl
          | Some m ↦ ap (λ b. bit_or (cond b (A.asked c r.lo) 0) 0) in_it ∙ or_none (A.asked c r.lo)
        ]
      ]

  -- inside the range the edge is found by its truths
  edge_inside : (l : Letter) (t : ℕ) → in_range l.key r ≡ true → moved l (edge_at A c r t) ≡ cond (nat_eq (bit_and l.truths (A.asked c r.lo)) t) (A.step c (at r.lo t)) None
  edge_inside l t in_it =
      (elim (is_within t (A.asked c r.lo)) as (λ b. is_within t (A.asked c r.lo) ≡ b → moved l (cond b (on_part [] (λ (m : Move S). edge_of t m ∷ []) (A.step c (at r.lo t))) []) ≡ cond (nat_eq (bit_and l.truths (A.asked c r.lo)) t) (A.step c (at r.lo t)) None) [
        | false ↦ λ e. ap (λ b. cond b (A.step c (at r.lo t)) None) (sym (other e))
        | true ↦ λ e. elim (A.step c (at r.lo t)) as (λ o. moved l (on_part [] (λ (m : Move S). edge_of t m ∷ []) o) ≡ cond (nat_eq (bit_and l.truths (A.asked c r.lo)) t) o None) [
          | None ↦ same_none (nat_eq (bit_and l.truths (A.asked c r.lo)) t)
          | Some m ↦ ap (λ b. option_map found_move (cond (b && nat_eq (bit_and l.truths (A.asked c r.lo)) t) (Some (edge_of t m)) None)) in_it ∙ through (nat_eq (bit_and l.truths (A.asked c r.lo)) t) m
        ]
      ]) refl
    where
      same_none : (b : Bool) → ◌≡◌ {A = Option (Move S)} None (cond b None None)
      same_none true = refl
      same_none false = refl

      through : (b : Bool) (m : Move S) → option_map found_move (cond b (Some (edge_of t m)) None) ≡ cond b (Some m) None
      through true m = refl
      through false m = refl

      -- truths with more than what is asked are no letter's
      other : is_within t (A.asked c r.lo) ≡ false → nat_eq (bit_and l.truths (A.asked c r.lo)) t ≡ false
      other e = (elim (nat_eq (bit_and l.truths (A.asked c r.lo)) t) as (λ b. nat_eq (bit_and l.truths (A.asked c r.lo)) t ≡ b → b ≡ false) [
        | false ↦ λ _. refl
        | true ↦ λ q. let u : bit_and l.truths (A.asked c r.lo) ≡ t = eqb-true _ _ q in
            absurd (true≢false (sym (eq-eqb _ _ (ap (λ w. bit_and w (A.asked c r.lo)) (sym u) ∙ and_and l.truths (A.asked c r.lo) (A.asked c r.lo) (or_self (A.asked c r.lo)) ∙ u)) ∙ e))
      ]) refl

  below_inside : (l : Letter) (n : ℕ) → in_range l.key r ≡ true → moved l (edges_below A c r n) ≡ cond (nat_lt (bit_and l.truths (A.asked c r.lo)) n) (A.step c (at r.lo (bit_and l.truths (A.asked c r.lo)))) None
  unfolding edges_below
  below_inside l zero in_it = ap (λ b. cond b (A.step c (at r.lo (bit_and l.truths (A.asked c r.lo)))) None) (sym (not_below _ 0 (none (bit_and l.truths (A.asked c r.lo)))))
    where
      none : (u : ℕ) → 0 ≤ u
      none u = omega arith
  below_inside l (suc n) in_it =
      let u = bit_and l.truths (A.asked c r.lo) in
      moved-append l (edges_below A c r n) (edge_at A c r n) ∙ (λ i. or_move (below_inside l n in_it i) (edge_inside l n in_it i))
      ∙ step_up u n
    where
      step_up : (u n : ℕ) → or_move (cond (nat_lt u n) (A.step c (at r.lo u)) None) (cond (nat_eq u n) (A.step c (at r.lo n)) None) ≡ cond (nat_lt u (suc n)) (A.step c (at r.lo u)) None
      step_up u n =
          elim (dec_lt u n) [
            | yes l ↦ (λ i. or_move (cond (lt-ltb u n l i) (A.step c (at r.lo u)) None) (cond (not_equal u n l i) (A.step c (at r.lo n)) None)) ∙ or_move-none (A.step c (at r.lo u))
                ∙ ap (λ b. cond b (A.step c (at r.lo u)) None) (sym (lt-ltb u (suc n) (more u n l)))
            | no k ↦ ap (λ b. or_move (cond b (A.step c (at r.lo u)) None) (cond (nat_eq u n) (A.step c (at r.lo n)) None)) (not_below u n (omega arith))
                ∙ elim (dec_lt u (suc n)) [
                  | yes l ↦ let e : u ≡ n = omega arith in ap (λ b. cond b (A.step c (at r.lo n)) None) (eq-eqb u n e) ∙ ap (λ w. A.step c (at r.lo w)) (sym e) ∙ ap (λ b. cond b (A.step c (at r.lo u)) None) (sym (lt-ltb u (suc n) l))
                  | no q ↦ ap (λ b. cond b (A.step c (at r.lo n)) None) (unequal u n (omega arith)) ∙ ap (λ b. cond b (A.step c (at r.lo u)) None) (sym (not_below u (suc n) (omega arith)))
                ]
          ]
        where
          more : (u n : ℕ) → u < n → u < suc n
          more u n h = omega arith

          unequal : (u n : ℕ) → n < u → nat_eq u n ≡ false
          unequal u n h = (elim (nat_eq u n) as (λ b. nat_eq u n ≡ b → b ≡ false) [ false ↦ λ _. refl | true ↦ λ q. let e : u ≡ n = eqb-true u n q in absurd (omega arith) ]) refl

          not_equal : (u n : ℕ) → u < n → nat_eq u n ≡ false
          not_equal u n h = (elim (nat_eq u n) as (λ b. nat_eq u n ≡ b → b ≡ false) [ false ↦ λ _. refl | true ↦ λ q. let e : u ≡ n = eqb-true u n q in absurd (omega arith) ]) refl

  asks_none : (k : ℤ) (n : ℕ) → in_range k r ≡ false → found_asks k (edges_below A c r n) ≡ 0
  unfolding edges_below
  asks_none k zero out = refl
  asks_none k (suc n) out = asks-append k (edges_below A c r n) (edge_at A c r n) ∙ (λ i. bit_or (asks_none k n out i) (asks_outside k n out i))

  asks_some : (k : ℤ) (n : ℕ) → in_range k r ≡ true → found_asks k (edges_below A c r n) ≡ cond (any_below emits n) (A.asked c r.lo) 0
  unfolding edges_below
  asks_some k zero in_it = refl
  asks_some k (suc n) in_it = asks-append k (edges_below A c r n) (edge_at A c r n) ∙ (λ i. bit_or (asks_some k n in_it i) (asks_inside k n in_it i)) ∙ two (any_below emits n) (emits n)
    where
      two : (a b : Bool) → bit_or (cond a (A.asked c r.lo) 0) (cond b (A.asked c r.lo) 0) ≡ cond (a || b) (A.asked c r.lo) 0
      two true true = or_self (A.asked c r.lo)
      two true false = or_none (A.asked c r.lo)
      two false true = refl
      two false false = refl

  -- ---- which edges there are

  pub record OnPiece (n : ℕ) (f : Found S) : Type 0 where
    pub range : f.range ≡ r
    pub asks : f.asks.0 ≡ A.asked c r.lo
    pub truths : f.truths.0 < n
    pub within : bit_and f.truths.0 f.asks.0 ≡ f.truths.0
    pub step : A.step c (own_letter (found_reads f)) ≡ Some (found_move f)

  edge_on : (t : ℕ) (f : Found S) → In f (edge_at A c r t) → OnPiece (suc t) f × (f.truths.0 ≡ t)
  edge_on t f =
      (elim (is_within t (A.asked c r.lo)) as (λ b. is_within t (A.asked c r.lo) ≡ b → In f (cond b (on_part [] (λ (m : Move S). edge_of t m ∷ []) (A.step c (at r.lo t))) []) → OnPiece (suc t) f × (f.truths.0 ≡ t)) [
        | false ↦ λ e h. absurd h
        | true ↦ λ e. (elim (A.step c (at r.lo t)) as (λ o. A.step c (at r.lo t) ≡ o → In f (on_part [] (λ (m : Move S). edge_of t m ∷ []) o) → OnPiece (suc t) f × (f.truths.0 ≡ t)) [
          | None ↦ λ q h. absurd h
          | Some m ↦ λ q h. elim h [
            | inl j ↦ subst (λ w. OnPiece (suc t) w × (w.truths.0 ≡ t)) j (record { range = refl; asks = refl; truths = last t; within = eqb-true _ _ e; step = q }, refl)
            | inr n ↦ absurd n
          ]
        ]) refl
      ]) refl
    where
      last : (t : ℕ) → t < suc t
      last t = omega arith

  more_on : (n : ℕ) (f : Found S) → OnPiece n f → OnPiece (suc n) f
  more_on n f h = record { range = h.range; asks = h.asks; truths = up f.truths.0 n h.truths; within = h.within; step = h.step }
    where
      up : (t n : ℕ) → t < n → t < suc n
      up t n l = omega arith

  edges_on_piece : (n : ℕ) (f : Found S) → In f (edges_below A c r n) → OnPiece n f
  unfolding edges_below
  edges_on_piece zero f h = absurd h
  edges_on_piece (suc n) f h = elim (In-append_cases f (edges_below A c r n) (edge_at A c r n) h) [ inl i ↦ more_on n f (edges_on_piece n f i) | inr i ↦ (edge_on n f i).0 ]

-- ---- order

-- each comes before all later ones
abbrev Rises : List Reads → Type 0
Rises [] = Unit {0}
Rises (r ∷ rs) = ((s : Reads) → In s rs → is_before r s ≡ true) × Rises rs

rises_ascends : (rs : List Reads) → Rises rs → ascend rs ≡ true
rises_ascends [] h = refl
rises_ascends (r ∷ []) h = refl
rises_ascends (r ∷ s ∷ rs) h = λ i. (ap (λ b. b && ascend (s ∷ rs)) (h.0 s (inl refl)) ∙ rises_ascends (s ∷ rs) h.1) i

rises-append : (rs ss : List Reads) → Rises rs → Rises ss → ((r s : Reads) → In r rs → In s ss → is_before r s ≡ true) → Rises (rs ++ ss)
rises-append [] ss a b f = b
rises-append (r ∷ rs) ss a b f = (
  (λ s i. elim (In-append_cases s rs ss i) [ inl j ↦ a.0 s j | inr j ↦ f r s (inl refl) j ]),
  rises-append rs ss a.1 b (λ q s i j. f q s (inr i) j),
)

before_lower : (r s : Reads) → r.range.hi <ℤ s.range.lo → is_before r s ≡ true
before_lower r s h = ap (λ b. b || (same_range r.range s.range && nat_eq r.asks s.asks && nat_lt r.truths s.truths)) (lt_to r.range.hi s.range.lo h)

before_same : (r s : Reads) → r.range ≡ s.range → r.asks ≡ s.asks → r.truths < s.truths → is_before r s ≡ true
before_same r s a b h =
    ap (λ w. int_lt r.range.hi s.range.lo || w) ((λ i. (ap (λ w. same_range r.range w) (sym a) ∙ same_itself r.range) i && eq-eqb r.asks s.asks b i && lt-ltb r.truths s.truths h i))
    ∙ or_true (int_lt r.range.hi s.range.lo)
  where
    eq_itself : (x : ℤ) → int_eq x x ≡ true
    eq_itself x = grind (arith, ints)

    same_itself : (r : Range) → same_range r r ≡ true
    same_itself r = λ i. eq_itself r.lo i && eq_itself r.hi i

pub map-append : {X Y : Type 0} (f : X → Y) (xs ys : List X) → map f (xs ++ ys) ≡ map f xs ++ map f ys
map-append f [] ys = refl
map-append f (x ∷ xs) ys = ap (λ w. f x ∷ w) (map-append f xs ys)

In-map_back : {X Y : Type 0} (f : X → Y) (y : Y) (xs : List X) → In y (map f xs) → (x : X) × In x xs × (f x ≡ y)
In-map_back f y [] h = absurd h
In-map_back f y (x ∷ xs) (inl e) = (x, inl refl, e)
In-map_back f y (x ∷ xs) (inr h) = let p = In-map_back f y xs h in (p.0, inr p.1, p.2)

module _ {S : Type 0} (A : Auto S) (c : S) where
  edge_rises : (r : Range) (t : ℕ) → Rises (map found_reads (edge_at A c r t))
  edge_rises r t =
      elim (is_within t (A.asked c r.lo)) as (λ b. Rises (map found_reads (cond b (on_part [] (λ (m : Move S). edge_of A c r t m ∷ []) (A.step c (at r.lo t))) []))) [
        | false ↦ tt
        | true ↦ elim (A.step c (at r.lo t)) as (λ o. Rises (map found_reads (on_part [] (λ (m : Move S). edge_of A c r t m ∷ []) o))) [
          | None ↦ tt
          | Some m ↦ ((λ s i. absurd i), tt)
        ]
      ]

  below_rises : (r : Range) (n : ℕ) → Rises (map found_reads (edges_below A c r n))
  unfolding edges_below
  below_rises r zero = tt
  below_rises r (suc n) = subst Rises (sym (map-append found_reads (edges_below A c r n) (edge_at A c r n)))
      (rises-append _ _ (below_rises r n) (edge_rises r n) (λ x y i j.
      let p = In-map_back found_reads x (edges_below A c r n) i in
      let q = In-map_back found_reads y (edge_at A c r n) j in
      let a = edges_on_piece A c r n p.0 p.1 in
      let b = edge_on A c r n q.0 q.1 in
      subst (λ w. is_before w y ≡ true) p.2 (subst (λ w. is_before (found_reads p.0) w ≡ true) q.2
      (before_same (found_reads p.0) (found_reads q.0) (a.range ∙ sym b.0.range) (a.asks ∙ sym b.0.asks) (subst (λ w. p.0.truths.0 < w) (sym b.1) a.truths)))))

  -- an edge of a row stands on one of its pieces
  row_piece : (ps : List Range) (f : Found S) → In f (row_edges A c ps) → (p : Range) × In p ps × In f (edges_on A c p)
  row_piece [] f h = absurd h
  row_piece (p ∷ ps) f h = elim (In-append_cases f (edges_on A c p) (row_edges A c ps) h) [ inl i ↦ (p, inl refl, i) | inr i ↦ let q = row_piece ps f i in (q.0, inr q.1, q.2) ]

  row_rises : (ps : List Range) → AreApart ps → Rises (map found_reads (row_edges A c ps))
  row_rises [] a = tt
  row_rises (p ∷ ps) a = subst Rises (sym (map-append found_reads (edges_on A c p) (row_edges A c ps)))
      (rises-append _ _ (below_rises p (A.asked c p.lo + 1)) (row_rises ps a.2) (λ x y i j.
      let u = In-map_back found_reads x (edges_on A c p) i in
      let v = In-map_back found_reads y (row_edges A c ps) j in
      let q = row_piece ps v.0 v.1 in
      let m = edges_on_piece A c p (A.asked c p.lo + 1) u.0 u.1 in
      let n = edges_on_piece A c q.0 (A.asked c q.0.lo + 1) v.0 q.2 in
      subst (λ w. is_before w y ≡ true) u.2 (subst (λ w. is_before (found_reads u.0) w ≡ true) v.2
      (before_lower (found_reads u.0) (found_reads v.0)
      (subst (λ w. w.hi <ℤ v.0.range.lo) (sym m.range) (subst (λ w. p.hi <ℤ w.lo) (sym n.range) (a.1 q.0 q.1)))))))

  row_edge : (ps : List Range) → AreApart ps → ((p : Range) → In p ps → A.asked c p.lo < 256) → (f : Found S) → In f (row_edges A c ps) → IsFound A c f
  row_edge ps a k f h =
      let q = row_piece ps f h in
      let m = edges_on_piece A c q.0 (A.asked c q.0.lo + 1) f q.2 in
      record {
        step = m.step;
        truths = m.within;
        asks = subst (λ w. w < 256) (sym m.asks) (k q.0 q.1);
        keys = subst (λ w. w.lo ≤ℤ w.hi) (sym m.range) (keys_of ps a q.0 q.1);
      }
    where
      keys_of : (ps : List Range) → AreApart ps → (p : Range) → In p ps → p.lo ≤ℤ p.hi
      keys_of [] a p i = absurd i
      keys_of (q ∷ ps) a p (inl e) = subst (λ w. w.lo ≤ℤ w.hi) e a.0
      keys_of (q ∷ ps) a p (inr i) = keys_of ps a.2 p i

-- ---- a row

-- a key lies in one of the ranges, or in none
in_some : (k : ℤ) (ps : List Range) → ((p : Range) × In p ps × (in_range k p ≡ true)) ⊎ Outside ps k
in_some k [] = inr (λ r i. absurd i)
in_some k (p ∷ ps) =
    (elim (in_range k p) as (λ b. in_range k p ≡ b → ((q : Range) × In q (p ∷ ps) × (in_range k q ≡ true)) ⊎ Outside (p ∷ ps) k) [
      | true ↦ λ e. inl (p, inl refl, e)
      | false ↦ λ e. elim (in_some k ps) [
        | inl q ↦ inl (q.0, inr q.1, q.2)
        | inr o ↦ inr (λ r i. elim i [ inl f ↦ subst (λ w. in_range k w ≡ false) f e | inr j ↦ o r j ])
      ]
    ]) refl

module _ {S : Type 0} (A : Auto S) (jams : S → Letter → Bool) (c : S) (ranges : List Range) (h : AreRanges A jams c ranges) where
  segment_steps : (r : Range) (l : Letter) → in_range l.key r ≡ true → InSame ranges r.lo l.key → moved l (edges_on A c r) ≡ A.step c l
  segment_steps r l in_it b =
      let u = bit_and l.truths (A.asked c r.lo) in
      below_inside A c r l (A.asked c r.lo + 1) in_it
      ∙ ap (λ b. cond b (A.step c (at r.lo u)) None) (lt-ltb u (A.asked c r.lo + 1) (up_to u (A.asked c r.lo) (and_le_r l.truths (A.asked c r.lo))))
      ∙ sym (h.steps.told r.lo l.truths) ∙ h.steps.alike r.lo l.key b l.truths

  emits_as : (r : Range) (k : ℤ) → A.asked c r.lo < 256 → InSame ranges r.lo k → any_below (emits A c r) (A.asked c r.lo + 1) ≡ steps_at A c k
  unfolding every_truths
  emits_as r k f b = both_ways _ _
      (λ e. let p = any_below_from (emits A c r) (A.asked c r.lo + 1) e in
      any_range_true (λ t. is_some (A.step c (at k t))) 0 256 p.0 (below p.0 (A.asked c r.lo) p.1 f)
      (ap (λ w. is_some (A.step c (at k w))) (zero-add p.0) ∙ ap is_some (sym (h.steps.alike r.lo k b p.0)) ∙ second (is_within p.0 (A.asked c r.lo)) _ p.2))
      (λ e. let p = any_range_from (λ t. is_some (A.step c (at k t))) 0 256 e in
      let u = bit_and (0 + p.0) (A.asked c r.lo) in
      any_below_true (emits A c r) (A.asked c r.lo + 1) u (up_to u (A.asked c r.lo) (and_le_r (0 + p.0) (A.asked c r.lo)))
      ((λ i. eq-eqb _ _ (and_and (0 + p.0) (A.asked c r.lo) (A.asked c r.lo) (or_self (A.asked c r.lo))) i && is_some (A.step c (at r.lo u)))
      ∙ ap is_some (sym (h.steps.told r.lo (0 + p.0)) ∙ h.steps.alike r.lo k b (0 + p.0)) ∙ p.2))
    where
      below : (t a : ℕ) → t < a + 1 → a < 256 → t < 256
      below t a l f = omega arith

  segment_asks : (r : Range) (k : ℤ) → A.asked c r.lo < 256 → in_range k r ≡ true → InSame ranges r.lo k → found_asks k (edges_on A c r) ≡ (quiet A).asked c k
  segment_asks r k f in_it b = asks_some A c r k (A.asked c r.lo + 1) in_it ∙ (λ i. cond (emits_as r k f b i) (h.asks.alike r.lo k b i) 0)

  no_asks : (k : ℤ) → A.asked c k ≡ 0 → 0 ≡ (quiet A).asked c k
  no_asks k e = go (steps_at A c k) ∙ ap (λ w. cond (steps_at A c k) w 0) (sym e)
    where
      go : (b : Bool) → ◌≡◌ {A = ℕ} 0 (cond b 0 0)
      go true = refl
      go false = refl

  -- no piece has the key
  out_of_row : (ps : List Range) (l : Letter) → Outside ps l.key → (moved l (row_edges A c ps) ≡ None) × (found_asks l.key (row_edges A c ps) ≡ 0)
  out_of_row [] l o = (refl, refl)
  out_of_row (p ∷ ps) l o =
      let out : in_range l.key p ≡ false = o p (inl refl) in
      let rest = out_of_row ps l (λ r i. o r (inr i)) in (
        moved-append l (edges_on A c p) (row_edges A c ps) ∙ (λ i. or_move (ap (option_map found_move) (below_outside A c p l (A.asked c p.lo + 1) out) i) (rest.0 i)),
        asks-append l.key (edges_on A c p) (row_edges A c ps) ∙ (λ i. bit_or (asks_none A c p l.key (A.asked c p.lo + 1) out i) (rest.1 i)),
      )

  in_row : (ps : List Range) → AreApart ps → ((p : Range) → In p ps → A.asked c p.lo < 256) → ((p : Range) → In p ps → (k : ℤ) → in_range k p ≡ true → InSame ranges p.lo k) → (l : Letter) (p : Range) → In p ps → in_range l.key p ≡ true
      → (moved l (row_edges A c ps) ≡ A.step c l) × (found_asks l.key (row_edges A c ps) ≡ (quiet A).asked c l.key)
  in_row [] a s w l p i e = absurd i
  in_row (q ∷ ps) a s w l p (inl f) e =
      let e' : in_range l.key q ≡ true = subst (λ r. in_range l.key r ≡ true) (sym f) e in
      let b : InSame ranges q.lo l.key = w q (inl refl) l.key e' in
      let rest = out_of_row ps l (λ r i. below_range l.key r (le_lt l.key q.hi r.lo (range_high l.key q e') (a.1 r i))) in (
        moved-append l (edges_on A c q) (row_edges A c ps) ∙ (λ i. or_move (segment_steps q l e' b i) (rest.0 i)) ∙ or_move-none (A.step c l),
        asks-append l.key (edges_on A c q) (row_edges A c ps) ∙ (λ i. bit_or (segment_asks q l.key (s q (inl refl)) e' b i) (rest.1 i)) ∙ or_none ((quiet A).asked c l.key),
      )
    where
      le_lt : (x y z : ℤ) → x ≤ℤ y → y <ℤ z → x <ℤ z
      le_lt x y z a b = omega (arith, ints)
  in_row (q ∷ ps) a s w l p (inr i) e =
      let out : in_range l.key q ≡ false = above_range l.key q (lt_le q.hi p.lo l.key (a.1 p i) (range_low l.key p e)) in
      let rest = in_row ps a.2 (λ r j. s r (inr j)) (λ r j. w r (inr j)) l p i e in (
        moved-append l (edges_on A c q) (row_edges A c ps) ∙ (λ j. or_move (ap (option_map found_move) (below_outside A c q l (A.asked c q.lo + 1) out) j) (rest.0 j)),
        asks-append l.key (edges_on A c q) (row_edges A c ps) ∙ (λ j. bit_or (asks_none A c q l.key (A.asked c q.lo + 1) out j) (rest.1 j)),
      )
    where
      lt_le : (x y z : ℤ) → x <ℤ y → y ≤ℤ z → x <ℤ z
      lt_le x y z a b = omega (arith, ints)

  module _ (ps : List Range) (g : ArePieces ranges ps) (small : (p : Range) → In p ps → A.asked c p.lo < 256) where
    whole : (p : Range) → In p ps → (k : ℤ) → in_range k p ≡ true → InSame ranges p.lo k
    whole p i k e r j = sym (g.whole p r i j k e)

    uncovered : (k : ℤ) → Outside ps k → Outside ranges k
    uncovered k o r j =
        (elim (in_range k r) as (λ b. in_range k r ≡ b → b ≡ false) [
          | false ↦ λ _. refl
          | true ↦ λ e. let p = g.covered k r j e in absurd (true≢false (sym p.2 ∙ o p.0 p.1))
        ]) refl

    row_at : (l : Letter) → (moved l (row_edges A c ps) ≡ A.step c l) × (found_asks l.key (row_edges A c ps) ≡ (quiet A).asked c l.key)
    row_at l =
        elim (in_some l.key ps) [
          | inl p ↦ in_row ps g.apart small whole l p.0 p.1 p.2
          | inr o ↦
              let none = out_of_row ps l o in
              let out = uncovered l.key o in
              (none.0 ∙ sym (h.steps.outside l.key out l.truths), none.1 ∙ no_asks l.key (h.asks.outside l.key out))
        ]

    pub row_is : IsRow A c (row_edges A c ps)
    row_is = record {
      steps = λ l. (row_at l).0;
      asks = λ k. (row_at (at k 0)).1;
      ascending = rises_ascends (map found_reads (row_edges A c ps)) (row_rises A c ps g.apart);
      each = row_edge A c ps g.apart small;
    }

    -- ---- cycles

    jams_from : (r : Range) (n : ℕ) → jams_below A jams c r n ≡ true → (t : ℕ) × (jams_at A jams c r t ≡ true)
    unfolding jams_below
    jams_from r zero e = absurd (true≢false (sym e))
    jams_from r (suc n) e =
        (elim (jams_below A jams c r n) as (λ b. jams_below A jams c r n ≡ b → (b || jams_at A jams c r n) ≡ true → (t : ℕ) × (jams_at A jams c r t ≡ true)) [
          | true ↦ λ q _. jams_from r n q
          | false ↦ λ _ q. (n, q)
        ]) refl e

    jams_true : (r : Range) (n t : ℕ) → t < n → jams_at A jams c r t ≡ true → jams_below A jams c r n ≡ true
    unfolding jams_below
    jams_true r zero t l e = absurd (omega arith)
    jams_true r (suc n) t l e =
        elim (below_or_at t n l) [
          | inl k ↦ ap (λ b. b || jams_at A jams c r n) (jams_true r n t k e)
          | inr q ↦ ap (λ b. jams_below A jams c r n || b) (ap (jams_at A jams c r) (sym q) ∙ e) ∙ or_true (jams_below A jams c r n)
        ]

    pub cycle_is : row_jams A jams c ps ≡ true → (l : Letter) × (jams c l ≡ true)
    cycle_is e =
        let p = any_from (jams_on A jams c) ps e in
        let t = jams_from p.0 (A.asked c p.0.lo + 1) p.2 in
        (at p.0.lo t.0, second (is_within t.0 (A.asked c p.0.lo)) (jams c (at p.0.lo t.0)) t.1)

    pub clear_is : row_jams A jams c ps ≡ false → (l : Letter) → jams c l ≡ false
    clear_is e l =
        elim (in_some l.key ps) [
          | inl p ↦
              let a = A.asked c p.0.lo in
              let u = bit_and l.truths a in
              let same : jams c l ≡ jams c (at p.0.lo u) = sym (h.cycles.alike p.0.lo l.key (whole p.0 p.1 l.key p.2) l.truths) ∙ h.cycles.told p.0.lo l.truths in
              same ∙ (elim (jams c (at p.0.lo u)) as (λ b. jams c (at p.0.lo u) ≡ b → b ≡ false) [
                | false ↦ λ _. refl
                | true ↦ λ q. absurd (true≢false (sym (any_true (jams_on A jams c) p.0 ps p.1 (jams_true p.0 (a + 1) u (up_to u a (and_le_r l.truths a))
                    (λ i. (ap (λ b. b && jams c (at p.0.lo u)) (eq-eqb _ _ (and_and l.truths a a (or_self a))) ∙ q) i))) ∙ e))
              ]) refl
          | inr o ↦ h.cycles.outside l.key (uncovered l.key o) l.truths
        ]
