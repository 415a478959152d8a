-- What edges say of letters and keys.
use Rattle.std.proofs.Common.{◌≡◌, ℕ, ℤ, Bool, true, false, cond, ◌&&◌, ◌||◌, List, [], ◌∷◌, map, Some, None, nat_eq, bit_and, bit_or, refl, ap, sym, ◌∙◌, inl, inr}
use Rattle.std.proofs.lemmas.Nat.{or_comm}
use Rattle.std.specs.Int.Bits.{or_self}
use Rattle.rl_types.specs.KeyRange.{Range, in_range}
use Rattle.rl_sets.specs.Sets.{In}
use Rattle.rl_fsm.specs.declared.edge.Edge.{Edge}
use Rattle.rl_fsm.specs.Reads.{Reads, takes, own_asks, asks_at}
use Rattle.rl_fsm.specs.Graphs.{reads_of, edge_for, ranges_of}
use Rattle.rl_fsm.proofs.Bits.{or_or, and_and}
use Rattle.rl_explore.specs.Ranges.{at, InSame, Outside}
use Rattle.rl_embed.specs.Guarded.{reads_in}

-- ---- conditions among others

abbrev pub Inside : ℕ → ℕ → Type 0
Inside a b = bit_or a b ≡ b

inside_left : (a b : ℕ) → Inside a (bit_or a b)
inside_left a b = sym (or_or a a b) ∙ ap (λ w. bit_or w b) (or_self a)

pub inside_right : (a b : ℕ) → Inside b (bit_or a b)
inside_right a b = ap (bit_or b) (or_comm a b) ∙ inside_left b a ∙ or_comm b a

inside_trans : (a b c : ℕ) → Inside a b → Inside b c → Inside a c
inside_trans a b c e f = ap (bit_or a) (sym f) ∙ sym (or_or a b c) ∙ ap (λ w. bit_or w c) e ∙ f

-- ---- keys in the same ranges, and keys in none

pub edges_alike : (j k : ℤ) (es : List Edge) → InSame (ranges_of es) j k → (t : ℕ) → edge_for (at j t) es ≡ edge_for (at k t) es
edges_alike j k [] f t = refl
edges_alike j k (e ∷ es) f t = λ x. cond (f e.range (inl refl) x && nat_eq (bit_and t e.asks.0) e.truths.0) (Some e) (edges_alike j k es (λ r i. f r (inr i)) t x)

pub asks_alike : (j k : ℤ) (es : List Edge) → InSame (ranges_of es) j k → asks_at j (map reads_of es) ≡ asks_at k (map reads_of es)
asks_alike j k [] f = refl
asks_alike j k (e ∷ es) f = λ x. bit_or (cond (f e.range (inl refl) x) e.asks.0 0) (asks_alike j k es (λ r i. f r (inr i)) x)

pub reads_alike : (j k : ℤ) (es : List Edge) → InSame (ranges_of es) j k → reads_in j es ≡ reads_in k es
reads_alike j k [] f = refl
reads_alike j k (e ∷ es) f = λ x. f e.range (inl refl) x || reads_alike j k es (λ r i. f r (inr i)) x

pub edges_outside : (k : ℤ) (es : List Edge) → Outside (ranges_of es) k → (t : ℕ) → edge_for (at k t) es ≡ None
edges_outside k [] f t = refl
edges_outside k (e ∷ es) f t = λ x. cond (f e.range (inl refl) x && nat_eq (bit_and t e.asks.0) e.truths.0) (Some e) (edges_outside k es (λ r i. f r (inr i)) t x)

pub reads_outside : (k : ℤ) (es : List Edge) → Outside (ranges_of es) k → reads_in k es ≡ false
reads_outside k [] f = refl
reads_outside k (e ∷ es) f = λ x. f e.range (inl refl) x || reads_outside k es (λ r i. f r (inr i)) x

neither : (a b : Bool) → (a || b) ≡ false → (a ≡ false) × (b ≡ false)
neither true b e = cc
neither false b e = (refl, e)

pub outside_from : (k : ℤ) (es : List Edge) → reads_in k es ≡ false → Outside (ranges_of es) k
outside_from k [] q r i = absurd i
outside_from k (e ∷ es) q r (inl d) = ap (in_range k) (sym d) ∙ (neither (in_range k e.range) (reads_in k es) q).0
outside_from k (e ∷ es) q r (inr i) = outside_from k es (neither (in_range k e.range) (reads_in k es) q).1 r i

-- ---- only what is asked matters

takes_told : (k : ℤ) (t m : ℕ) (r : Reads) → Inside (own_asks k r) m → takes (at k t) r ≡ takes (at k (bit_and t m)) r
takes_told k t m r h = by (in_range k r.range) h
  where
    by : (b : Bool) → Inside (cond b r.asks 0) m → (b && nat_eq (bit_and t r.asks) r.truths) ≡ (b && nat_eq (bit_and (bit_and t m) r.asks) r.truths)
    by true h = ap (λ w. nat_eq w r.truths) (sym (and_and t m r.asks h))
    by false h = refl

pub edges_told : (k : ℤ) (t m : ℕ) (es : List Edge) → Inside (asks_at k (map reads_of es)) m → edge_for (at k t) es ≡ edge_for (at k (bit_and t m)) es
edges_told k t m [] h = refl
edges_told k t m (e ∷ es) h =
    let own = own_asks k (reads_of e) in
    let rest = asks_at k (map reads_of es) in
    let first : Inside own m = inside_trans own (bit_or own rest) m (inside_left own rest) h in
    let others : Inside rest m = inside_trans rest (bit_or own rest) m (inside_right own rest) h in
    λ x. cond (takes_told k t m (reads_of e) first x) (Some e) (edges_told k t m es others x)
