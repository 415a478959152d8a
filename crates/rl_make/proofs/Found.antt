-- Which edge of a state is found by its own letter.
use Rattle.std.proofs.Common.{◌≡◌, ℕ, ◌<◌, ◌≤◌, ℤ, ◌≤ℤ◌, Bool, true, false, cond, ◌&&◌, List, [], ◌∷◌, map, Some, nat_eq, bit_and, bit_or, refl, ap, sym, ◌∙◌, subst, inl, inr, arith}
use borrow.Author.Tests.{eqb-true, eq-eqb}
use Rattle.std.proofs.lemmas.Int.{ints}
use Rattle.std.proofs.lemmas.Nat.{le_or_l, le_or_r}
use Rattle.rl_types.specs.declared.numbers.Letter.{Letter}
use Rattle.rl_types.specs.KeyRange.{in_range}
use Rattle.rl_sets.specs.Sets.{In}
use Rattle.rl_fsm.specs.Reads.{Reads, takes, own_letter, ascend, own_asks, asks_at}
use Rattle.rl_fsm.proofs.Ascending.{Precedes, HasKeys, first_precedes, rest_ascends}
use Rattle.rl_fsm.proofs.PieceLaws.{range_is, above_range}
use Rattle.rl_minimal.specs.declared.state.MinEdge.{MinEdge}
use Rattle.rl_minimal.specs.Minimal.{reads_of}
use Rattle.rl_minimal.specs.Sound.{AreReads}
use Rattle.rl_minimal.specs.Machine.{edge_for}

-- the last letter of what an edge reads: its greatest key
abbrev pub last_letter : Reads → Letter
last_letter r = record { key = r.range.hi; truths = r.truths }

self : (x : ℤ) → x ≤ℤ x
self x = omega (arith, ints)

reads_truths : (r : Reads) → bit_and r.truths r.asks ≡ r.truths → (b : Bool) → b ≡ true → (b && nat_eq (bit_and r.truths r.asks) r.truths) ≡ true
reads_truths r t b e = ap (λ w. w && nat_eq (bit_and r.truths r.asks) r.truths) e ∙ eq-eqb (bit_and r.truths r.asks) r.truths t

takes_first : (r : Reads) → HasKeys r → bit_and r.truths r.asks ≡ r.truths → takes (own_letter r) r ≡ true
takes_first r k t = reads_truths r t (in_range r.range.lo r.range) (range_is r.range.lo r.range (self r.range.lo) k)

pub takes_last : (r : Reads) → HasKeys r → bit_and r.truths r.asks ≡ r.truths → takes (last_letter r) r ≡ true
takes_last r k t = reads_truths r t (in_range r.range.hi r.range) (range_is r.range.hi r.range k (self r.range.hi))

not_taken : (r s : Reads) → bit_and s.truths s.asks ≡ s.truths → Precedes r s → takes (own_letter s) r ≡ false
not_taken r s t (inl a) = ap (λ b. b && nat_eq (bit_and s.truths r.asks) r.truths) (above_range s.range.lo r.range a)
not_taken r s t (inr a) = ap (λ b. in_range s.range.lo r.range && b) (unequal (bit_and s.truths r.asks) r.truths (ap (bit_and s.truths) a.1 ∙ t) a.2) ∙ and_false (in_range s.range.lo r.range)
  where
    unequal : (x y : ℕ) → x ≡ s.truths → y < s.truths → nat_eq x y ≡ false
    unequal x y e l = (elim (nat_eq x y) as (λ b. nat_eq x y ≡ b → b ≡ false) [ false ↦ λ _. refl | true ↦ λ q. let f : x ≡ y = eqb-true x y q in absurd (omega arith) ]) refl

    and_false : (b : Bool) → (b && false) ≡ false
    and_false true = refl
    and_false false = refl

In-reads : (e : MinEdge) (es : List MinEdge) → In e es → In (reads_of e) (map reads_of es)
In-reads e [] i = absurd i
In-reads e (f ∷ es) (inl q) = inl (ap reads_of q)
In-reads e (f ∷ es) (inr i) = inr (In-reads e es i)

In-reads_from : (r : Reads) (es : List MinEdge) → In r (map reads_of es) → (e : MinEdge) × In e es × (reads_of e ≡ r)
In-reads_from r [] i = absurd i
In-reads_from r (f ∷ es) (inl q) = (f, inl refl, q)
In-reads_from r (f ∷ es) (inr i) = let p = In-reads_from r es i in (p.0, inr p.1, p.2)

-- each edge is found by its own letter
pub edge_found : (es : List MinEdge) → ((e : MinEdge) → In e es → AreReads e) → ascend (map reads_of es) ≡ true → (e : MinEdge) → In e es → edge_for (own_letter (reads_of e)) es ≡ Some e
edge_found [] k a e i = absurd i
edge_found (f ∷ es) k a e (inl q) =
    subst (λ w. edge_for (own_letter (reads_of w)) (f ∷ es) ≡ Some w) q
    (ap (λ b. cond b (Some f) (edge_for (own_letter (reads_of f)) es)) (takes_first (reads_of f) (k f (inl refl)).keys (k f (inl refl)).truths))
edge_found (f ∷ es) k a e (inr i) =
    let before : Precedes (reads_of f) (reads_of e) = first_precedes (reads_of f) (map reads_of es) a
    (λ r j. let p = In-reads_from r es j in subst HasKeys p.2 (k p.0 (inr p.1)).keys) (reads_of e) (In-reads e es i) in
    ap (λ b. cond b (Some f) (edge_for (own_letter (reads_of e)) es)) (not_taken (reads_of f) (reads_of e) (k e (inr i)).truths before)
    ∙ edge_found es (λ g j. k g (inr j)) (rest_ascends (reads_of f) (map reads_of es) a) e i

abbrev pub IsFound : Letter → List MinEdge → Type 0
IsFound l es = (f : MinEdge) × (edge_for l es ≡ Some f)

not_both : (b : Bool) → b ≡ false → b ≡ true → ⊥
not_both true x y = absurd (cc x)
not_both false x y = absurd (cc y)

found_by : (l : Letter) (f : MinEdge) (es : List MinEdge) (b : Bool) → takes l (reads_of f) ≡ b → (b ≡ false → IsFound l es) → IsFound l (f ∷ es)
found_by l f es true q later = (f, ap (λ b. cond b (Some f) (edge_for l es)) q)
found_by l f es false q later = let p = later refl in (p.0, ap (λ b. cond b (Some f) (edge_for l es)) q ∙ p.1)

-- where an edge takes a letter, one is found
pub some_found : (l : Letter) (es : List MinEdge) (e : MinEdge) → In e es → takes l (reads_of e) ≡ true → IsFound l es
some_found l [] e i t = absurd i
some_found l (f ∷ es) e (inl s) t = found_by l f es (takes l (reads_of f)) refl (λ q. absurd (not_both (takes l (reads_of f)) q (ap (λ w. takes l (reads_of w)) s ∙ t)))
some_found l (f ∷ es) e (inr j) t = found_by l f es (takes l (reads_of f)) refl (λ q. some_found l es e j t)

-- what one edge asks at its least key is among what is asked there
pub asks_within : (rs : List Reads) (r : Reads) → In r rs → HasKeys r → r.asks ≤ asks_at r.range.lo rs
asks_within [] r i k = absurd i
asks_within (s ∷ rs) r (inl q) k =
    subst (λ w. r.asks ≤ bit_or w (asks_at r.range.lo rs)) (sym own) (le_or_l r.asks (asks_at r.range.lo rs))
  where
    own : own_asks r.range.lo s ≡ r.asks
    own = ap (own_asks r.range.lo) q ∙ ap (λ b. cond b r.asks 0) (range_is r.range.lo r.range (self r.range.lo) k)
asks_within (s ∷ rs) r (inr i) k =
    let below = asks_within rs r i k in
    let more = le_or_r (own_asks r.range.lo s) (asks_at r.range.lo rs) in
    omega arith
