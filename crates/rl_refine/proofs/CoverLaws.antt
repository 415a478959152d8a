-- Edges that are like another, key by key.
use Rattle.std.proofs.Common.{◌≡◌, ℕ, zero, suc, ◌+◌, ◌<◌, ◌≤◌, ℤ, ◌+ℤ◌, ◌≤ℤ◌, ◌<ℤ◌, pos, true, List, [], ◌∷◌, length, drop, get_or, drop-cons, ap, sym, ◌∙◌, subst, inl, inr, arith, add-one}
use Rattle.std.proofs.lemmas.Int.{ints}
use Rattle.std.proofs.Math.ListN.{drop_of_length-le}
use Rattle.rl_types.specs.KeyRange.{in_range}
use Rattle.rl_sets.specs.Sets.{In}
use Rattle.rl_fsm.proofs.PieceLaws.{range_low, range_high, range_is, before_or_not}
use Rattle.rl_minimal.specs.declared.state.MinEdge.{MinEdge}
use Rattle.rl_refine.specs.Covers.{IsLike, HasLike, IsCovered}

pub In-item : {X : Type 0} (xs : List X) (i : ℕ) (x : X) → i < length xs → x ≡ get_or xs i x → In x xs
In-item [] i x h e = absurd (omega arith)
In-item (y ∷ xs) zero x h e = inl (sym e)
In-item (y ∷ xs) (suc i) x h e = inr (In-item xs i x (omega arith) e)

-- an edge that has the key and is not like e is none of those that are sought
pub like_later : (cs : List ℕ) (e : MinEdge) (es : List MinEdge) (k : ℤ) (i : ℕ) (f : MinEdge) → i < length es → f ≡ get_or es i f → (in_range k f.range ≡ true → IsLike cs e f → ⊥) → HasLike cs e (drop i es) k → HasLike cs e (drop (i + 1) es) k
like_later cs e es k i f h q n a = by (subst (In a.edge) (drop-cons es i f h ∙ ap (λ w. w ∷ drop (suc i) es) (sym q)) a.there)
  where
    by : In a.edge (f ∷ drop (suc i) es) → HasLike cs e (drop (i + 1) es) k
    by (inl s) = absurd (n (subst (λ (w : MinEdge). in_range k w.range ≡ true) (sym s) a.has) (subst (IsLike cs e) (sym s) a.like))
    by (inr j) = record { edge = a.edge; there = subst (λ w. In a.edge (drop w es)) (sym (add-one i)) j; has = a.has; like = a.like }

pub like_none : (cs : List ℕ) (e : MinEdge) (es : List MinEdge) (k : ℤ) (i : ℕ) → length es ≤ i → HasLike cs e (drop i es) k → ⊥
like_none cs e es k i h a = by (subst (In a.edge) (drop_of_length-le es h) a.there)
  where
    by : In a.edge [] → ⊥
    by j = j

-- an edge that is like e is so up to its last key
pub like_to_end : (cs : List ℕ) (e : MinEdge) (es : List MinEdge) (f : MinEdge) (key : ℤ) → In f es → in_range key f.range ≡ true → IsLike cs e f → (k : ℤ) → key ≤ℤ k → k ≤ℤ f.range.hi → HasLike cs e es k
like_to_end cs e es f key i h l k a b = record { edge = f; there = i; has = range_is k f.range (through f.range.lo key k (range_low key f.range h) a) b; like = l }
  where
    through : (x y z : ℤ) → x ≤ℤ y → y ≤ℤ z → x ≤ℤ z
    through x y z p q = omega (arith, ints)

-- all keys of e below this one have an edge that is like it
pub record IsCoveredBelow (cs : List ℕ) (e : MinEdge) (es : List MinEdge) (key : ℤ) : Type 0 where
  pub low : e.range.lo ≤ℤ key
  pub high : key ≤ℤ e.range.hi
  pub each : (k : ℤ) → e.range.lo ≤ℤ k → k <ℤ key → HasLike cs e es k

pub covered_first : (cs : List ℕ) (e : MinEdge) (es : List MinEdge) → e.range.lo ≤ℤ e.range.hi → IsCoveredBelow cs e es e.range.lo
covered_first cs e es h = record { low = self e.range.lo; high = h; each = λ k a b. absurd (never e.range.lo k a b) }
  where
    self : (x : ℤ) → x ≤ℤ x
    self x = omega (arith, ints)

    never : (x k : ℤ) → x ≤ℤ k → k <ℤ x → ⊥
    never x k a b = omega (arith, ints)

module _ (cs : List ℕ) (e : MinEdge) (es : List MinEdge) (key until : ℤ) (below : IsCoveredBelow cs e es key) (later : key ≤ℤ until) (like : (k : ℤ) → key ≤ℤ k → k ≤ℤ until → HasLike cs e es k) where
  up_to : (k : ℤ) → e.range.lo ≤ℤ k → k ≤ℤ until → HasLike cs e es k
  up_to k a b = elim (before_or_not k key) [ inl l ↦ below.each k a l | inr g ↦ like k g b ]

  pub covered_more : until <ℤ e.range.hi → IsCoveredBelow cs e es (until +ℤ pos 1)
  covered_more h = record {
    low = lows e.range.lo key until below.low later;
    high = highs until e.range.hi h;
    each = λ k a b. up_to k a (less k until b);
  }
    where
      lows : (x y z : ℤ) → x ≤ℤ y → y ≤ℤ z → x ≤ℤ (z +ℤ pos 1)
      lows x y z p q = omega (arith, ints)

      highs : (x y : ℤ) → x <ℤ y → (x +ℤ pos 1) ≤ℤ y
      highs x y p = omega (arith, ints)

      less : (x y : ℤ) → x <ℤ (y +ℤ pos 1) → x ≤ℤ y
      less x y p = omega (arith, ints)

  pub covered_all : e.range.hi ≤ℤ until → IsCovered cs es e
  covered_all h = record { each = λ k p. up_to k (range_low k e.range p) (through k e.range.hi until (range_high k e.range p) h) }
    where
      through : (x y z : ℤ) → x ≤ℤ y → y ≤ℤ z → x ≤ℤ z
      through x y z p q = omega (arith, ints)

pub covered_not : (cs : List ℕ) (e : MinEdge) (es : List MinEdge) (key : ℤ) → IsCoveredBelow cs e es key → (HasLike cs e es key → ⊥) → IsCovered cs es e → ⊥
covered_not cs e es key b n c = n (c.each key (range_is key e.range b.low b.high))
