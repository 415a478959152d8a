-- The first round: the empty word, or none, for pair after pair.
use Rattle.std.proofs.Common.{◌≡◌, ℕ, suc, ◌+◌, ◌<◌, ◌≤◌, List, [], ◌∷◌, ◌++◌, length, Some, None, refl, sym, ◌∙◌, subst, inl, inr, ◌⊎◌, Bool, arith}
use native.Mathlib.Decide.{dec_lt}
use Rattle.rl_types.specs.declared.numbers.Letter.{Letter}
use Rattle.rl_sets.specs.Sets.{In}
use Rattle.rl_sets.proofs.SetLaws.{In-append_left, In-append_right, In-append_cases}
use Rattle.rl_minimal.specs.Minimal.{Minimal}
use Rattle.rl_certificate.specs.declared.order.Pair.{Pair}
use Rattle.rl_certificate.specs.Views.{ShowSame}
use Rattle.rl_certificate.specs.Firsts.{WordBefore, TellsApart}
use Rattle.rl_certificate.specs.Rounds.{IsTold}
use Rattle.rl_certificate.specs.Tables.{Words, row_in, word_in, with_word, IsSquare, IsPair, AreOpen, AreKnown, ComesBefore, IsTried, IsBegun}
use Rattle.rl_certificate.proofs.TableLaws.{word_here, word_other, still_square}

some_none : {X : Type 0} {Y : Type 0} (y : X) → Some y ≡ None → Y
some_none y e = cc

not_before : (v : List Letter) → WordBefore v [] → ⊥
not_before v (inl h) = absurd (omega arith)
not_before [] (inr h) = h.1
not_before (l ∷ v) (inr h) = h.1

module _ (m : Minimal) (homes : Bool) where
  same_told : (i j : ℕ) → ShowSame m homes i j → IsTold m homes 0 i j None
  same_told i j s = (s, none)
    where
      none : (w : List Letter) → length w ≤ 0 → TellsApart m homes w i j → ⊥
      none [] h d = d s
      none (l ∷ w) h d = let e : length (l ∷ w) ≡ suc (length w) = refl in absurd (omega arith)

  differ_told : (i j : ℕ) → (ShowSame m homes i j → ⊥) → IsTold m homes 0 i j (Some [])
  differ_told i j d = (record { apart = d; first = λ v a b. not_before v b }, let e : length {A = Letter} [] ≡ 0 = refl in omega arith)

  pub begun_first : (words : Words) → IsSquare (length m.states) words → ((i j : ℕ) → word_in words i j ≡ None) → IsBegun m homes words [] 1 2
  begun_first words q n = record {
    square = q;
    each = λ p k b. absurd (never p k b);
    own = λ i k. n i i;
    later = λ p k b. n p.low p.high;
    still_is = λ p i. absurd i;
    all = λ p k b e. absurd (never p k b);
  }
    where
      never : (p : Pair) → IsPair m p → ComesBefore p 1 2 → ⊥
      never p k (inl h) = let a = k.alive in absurd (omega arith)
      never p k (inr h) = let a = k.ordered in let b : p.low ≡ 1 = h.0 in let c : p.high < 2 = h.1 in absurd (omega arith)

  -- the same pairs come before
  begun_moved : (words : Words) (still : List Pair) (a b c d : ℕ) → ((p : Pair) → IsPair m p → ComesBefore p a b → ComesBefore p c d) → ((p : Pair)
      → IsPair m p → ComesBefore p c d → ComesBefore p a b)
      → IsBegun m homes words still a b → IsBegun m homes words still c d
  begun_moved words still a b c d to back k = record {
    square = k.square;
    each = λ p i e. k.each p i (back p i e);
    own = k.own;
    later = λ p i n. k.later p i (λ e. n (to p i e));
    still_is = λ p i. let x = k.still_is p i in (x.0, x.1, to p x.0 x.2);
    all = λ p i e q. k.all p i (back p i e) q;
  }

  pub row_over : (words : Words) (still : List Pair) (low : ℕ) → IsBegun m homes words still low (length m.states)
      → IsBegun m homes words still (low + 1) (low + 1 + 1)
  row_over words still low k = begun_moved words still low (length m.states) (low + 1) (low + 1 + 1) to back k
    where
      to : (p : Pair) → IsPair m p → ComesBefore p low (length m.states) → ComesBefore p (low + 1) (low + 1 + 1)
      to p i (inl h) = inl (omega arith)
      to p i (inr h) = let e : p.low ≡ low = h.0 in inl (omega arith)

      back : (p : Pair) → IsPair m p → ComesBefore p (low + 1) (low + 1 + 1) → ComesBefore p low (length m.states)
      back p i (inl h) = elim (dec_lt p.low low) [ yes g ↦ inl g | no g ↦ inr (let e : p.low ≡ low = omega arith in e, i.there) ]
      back p i (inr h) = let e : p.low ≡ low + 1 = h.0 in let g : p.high < low + 1 + 1 = h.1 in let o = i.ordered in absurd (omega arith)

  -- one pair more
  before_next : (p : Pair) (low high : ℕ) → ComesBefore p low (high + 1) → ComesBefore p low high ⊎ ((p.low ≡ low) × (p.high ≡ high))
  before_next p low high (inl h) = inl (inl h)
  before_next p low high (inr h) = elim (dec_lt p.high high) [
    | yes g ↦ inl (inr (h.0, g))
    | no g ↦ inr (h.0, let a : p.high < high + 1 = h.1 in let e : p.high ≡ high = omega arith in e)
  ]

  before_more : (p : Pair) (low high : ℕ) → ComesBefore p low high → ComesBefore p low (high + 1)
  before_more p low high (inl h) = inl h
  before_more p low high (inr h) = inr (h.0, let a : p.high < high = h.1 in omega arith)

  not_itself : (p : Pair) (low high : ℕ) → ComesBefore p low high → p.low ≡ low → p.high ≡ high → ⊥
  not_itself p low high (inl h) a b = absurd (omega arith)
  not_itself p low high (inr h) a b = let c : p.high < high = h.1 in absurd (omega arith)

  itself_before : (p : Pair) → ComesBefore p p.low p.high → ⊥
  itself_before p b = not_itself p p.low p.high b refl refl

  pair_same : (p z : Pair) → z.low ≡ p.low → z.high ≡ p.high → p ≡ z
  pair_same p z a b = λ i. record { low = sym a i; high = sym b i }

  module _ (old : Words) (before : List Pair) (p : Pair) (ip : IsPair m p) (k : IsBegun m homes old before p.low p.high) where
    none_yet : word_in old p.low p.high ≡ None
    none_yet = k.later p ip (itself_before p)

    tried_same : ShowSame m homes p.low p.high → IsBegun m homes old (before ++ p ∷ []) p.low (p.high + 1)
    tried_same s = record {
      square = k.square;
      each = λ z i b. each_by z i (before_next z p.low p.high b);
      own = k.own;
      later = λ z i n. k.later z i (λ b. n (before_more z p.low p.high b));
      still_is = λ z i. still_by z (In-append_cases z before (p ∷ []) i);
      all = λ z i b e. all_by z i e (before_next z p.low p.high b);
    }
      where
        each_by : (z : Pair) → IsPair m z → ComesBefore z p.low p.high ⊎ ((z.low ≡ p.low) × (z.high ≡ p.high))
            → IsTold m homes 0 z.low z.high (word_in old z.low z.high)
        each_by z i (inl b) = k.each z i b
        each_by z i (inr e) = subst (λ (y : Pair). IsTold m homes 0 y.low y.high (word_in old y.low y.high)) (pair_same p z e.0 e.1)
            (subst (IsTold m homes 0 p.low p.high) (sym none_yet) (same_told p.low p.high s))

        still_by : (z : Pair) → In z before ⊎ In z (p ∷ []) → IsPair m z × (word_in old z.low z.high ≡ None) × ComesBefore z p.low (p.high + 1)
        still_by z (inl i) = let x = k.still_is z i in (x.0, x.1, before_more z p.low p.high x.2)
        still_by z (inr (inl e)) = subst (λ (y : Pair). IsPair m y × (word_in old y.low y.high ≡ None) × ComesBefore y p.low (p.high + 1)) e
            (ip, none_yet, inr (refl, omega arith))
        still_by z (inr (inr a)) = absurd a

        all_by : (z : Pair) → IsPair m z → word_in old z.low z.high ≡ None → ComesBefore z p.low p.high ⊎ ((z.low ≡ p.low) × (z.high ≡ p.high))
            → In z (before ++ p ∷ [])
        all_by z i e (inl b) = In-append_left z before (p ∷ []) (k.all z i b e)
        all_by z i e (inr q) = In-append_right z before (p ∷ []) (inl (pair_same p z q.0 q.1))

    tried_differ : (ShowSame m homes p.low p.high → ⊥) → IsBegun m homes (with_word old p.low p.high []) before p.low (p.high + 1)
    tried_differ d = record {
      square = still_square old p.low p.high [] high (length m.states) k.square;
      each = λ z i b. each_by z i (before_next z p.low p.high b);
      own = λ i r. other i i (λ a b. let o = ip.ordered in absurd (omega arith)) ∙ k.own i r;
      later = λ z i n. other z.low z.high (λ a b. n (inr (a, let e : z.high ≡ p.high = b in omega arith))) ∙ k.later z i (λ b. n
          (before_more z p.low p.high b));
      still_is = λ z i. let x = k.still_is z i in (x.0, other z.low z.high (not_itself z p.low p.high x.2) ∙ x.1, before_more z p.low p.high x.2);
      all = λ z i b e. all_by z i e (before_next z p.low p.high b);
    }
      where
        high : p.low < length old
        high = subst (λ c. p.low < c) (sym k.square.count) (let a = ip.ordered in let b = ip.there in omega arith)

        wide : p.high < length (row_in old p.low)
        wide = subst (λ c. p.high < c) (sym (k.square.each p.low (let a = ip.ordered in let b = ip.there in omega arith))) ip.there

        here : word_in (with_word old p.low p.high []) p.low p.high ≡ Some []
        here = word_here old p.low p.high [] high wide

        other : (i j : ℕ) → (i ≡ p.low → j ≡ p.high → ⊥) → word_in (with_word old p.low p.high []) i j ≡ word_in old i j
        other i j n = word_other old p.low p.high [] high i j n

        each_by : (z : Pair) → IsPair m z → ComesBefore z p.low p.high ⊎ ((z.low ≡ p.low) × (z.high ≡ p.high))
            → IsTold m homes 0 z.low z.high (word_in (with_word old p.low p.high []) z.low z.high)
        each_by z i (inl b) = subst (IsTold m homes 0 z.low z.high) (sym (other z.low z.high (not_itself z p.low p.high b))) (k.each z i b)
        each_by z i (inr e) = subst (λ (y : Pair). IsTold m homes 0 y.low y.high (word_in (with_word old p.low p.high []) y.low y.high))
            (pair_same p z e.0 e.1)
            (subst (IsTold m homes 0 p.low p.high) (sym here) (differ_told p.low p.high d))

        all_by : (z : Pair) → IsPair m z → word_in (with_word old p.low p.high []) z.low z.high ≡ None
            → ComesBefore z p.low p.high ⊎ ((z.low ≡ p.low) × (z.high ≡ p.high)) → In z before
        all_by z i e (inl b) = k.all z i b (sym (other z.low z.high (not_itself z p.low p.high b)) ∙ e)
        all_by z i e (inr q) = some_none [] (sym here ∙ (λ i. word_in (with_word old p.low p.high []) (sym q.0 i) (sym q.1 i)) ∙ e)

    pub tried : (new : Words) (after : List Pair) → IsTried m homes old new p before after → IsBegun m homes new after p.low (p.high + 1)
    tried new after (inl t) = subst (λ w. IsBegun m homes w after p.low (p.high + 1)) (sym t.1) (subst (λ a. IsBegun m homes old a p.low
        (p.high + 1)) (sym t.2) (tried_same t.0))
    tried new after (inr t) = subst (λ w. IsBegun m homes w after p.low (p.high + 1)) (sym t.1) (subst (λ a. IsBegun m homes
        (with_word old p.low p.high []) a p.low (p.high + 1)) (sym t.2) (tried_differ t.0))

  -- ---- all pairs

  module _ (words : Words) (still : List Pair) (low high : ℕ) (k : IsBegun m homes words still low high) (done :
      (p : Pair) → IsPair m p → ComesBefore p low high) where
    known_by : AreKnown m homes 0 words
    known_by = record { each = λ p i. k.each p i (done p i); own = k.own }

    open_by : AreOpen m words still
    open_by = record { each = λ p i. let x = k.still_is p i in (x.0, x.1); all = λ p i e. k.all p i (done p i) e }

  all_before : (low : ℕ) → length m.states ≤ low → (p : Pair) → IsPair m p → ComesBefore p low (low + 1)
  all_before low h p k = inl (let a = k.ordered in let b = k.there in omega arith)

  pub begun_known : (words : Words) (still : List Pair) (low : ℕ) → length m.states ≤ low → IsBegun m homes words still low (low + 1)
      → AreKnown m homes 0 words
  begun_known words still low h k = known_by words still low (low + 1) k (all_before low h)

  pub begun_open : (words : Words) (still : List Pair) (low : ℕ) → length m.states ≤ low → IsBegun m homes words still low (low + 1)
      → AreOpen m words still
  begun_open words still low h k = open_by words still low (low + 1) k (all_before low h)
