-- Edges that ascend: which one takes a letter, and what is asked at a key. When the edges of two states do the same.
use Rattle.std.proofs.Common.{◌≡◌, ℕ, ◌<◌, ℤ, ◌≤ℤ◌, ◌<ℤ◌, Bool, true, false, cond, ◌&&◌, List, [], ◌∷◌, map, Option, Some, None, nat_eq, bit_and, bit_or, option_map, refl, ap, sym, ◌∙◌, subst, inl, inr, ◌⊎◌, arith, true≢false, slice_get}
use Rattle.std.proofs.lemmas.Int.{ints}
use Rattle.std.specs.Int.Bits.{or_self, or_zero_l}
use Rattle.std.specs.List.{All}
use borrow.Author.Tests.{eqb-true, eq-eqb}
use Rattle.rl_types.specs.declared.numbers.ActionId.{ActionId}
use Rattle.rl_types.specs.declared.numbers.Letter.{Letter}
use Rattle.rl_types.specs.KeyRange.{in_range}
use Rattle.rl_sets.specs.Sets.{In}
use Rattle.rl_fsm.specs.Reads.{Reads, takes, own_asks, asks_at, ascend}
use Rattle.rl_fsm.proofs.Bits.{or_none}
use Rattle.rl_fsm.proofs.PieceLaws.{range_low, range_high, All-In, All-from_In}
use Rattle.rl_fsm.proofs.Ascending.{Precedes, HasKeys, first_precedes, rest_ascends}
use Rattle.rl_minimal.specs.declared.state.MinEdge.{MinEdge}
use Rattle.rl_minimal.specs.declared.state.MinState.{MinState}
use Rattle.rl_minimal.specs.Minimal.{Minimal, reads_of}
use Rattle.rl_minimal.specs.Machine.{edge_for}
use Rattle.rl_minimal.specs.Sound.{AreReads, IsEdge, IsMinimal}
use Rattle.rl_certificate.specs.Views.{list_on, StepAlike}
use Rattle.rl_certificate.specs.Covers.{HasLike, IsCovered, AreSound}
use Rattle.rl_certificate.proofs.WalkLaws.{edge_from}

split_and : (a b : Bool) → (a && b) ≡ true → (a ≡ true) × (b ≡ true)
split_and true b e = (refl, e)
split_and false b e = absurd (true≢false (sym e))

and_true : (a b : Bool) → a ≡ true → b ≡ true → (a && b) ≡ true
and_true a b p q = (λ i. p i && q i)

-- ---- the order of edges

pub record AreOrdered (es : List MinEdge) : Type 0 where
  pub each : (e : MinEdge) → In e es → AreReads e
  pub ascending : ascend (map reads_of es) ≡ true

pub ordered : (es : List MinEdge) → AreSound es → AreOrdered es
ordered es s = record { each = λ e i. All-In AreReads es e s.each i; ascending = s.ascending }

pub rest_ordered : (f : MinEdge) (es : List MinEdge) → AreOrdered (f ∷ es) → AreOrdered es
rest_ordered f es o = record { each = λ e i. o.each e (inr i); ascending = rest_ascends (reads_of f) (map reads_of es) o.ascending }

In-reads : (e : MinEdge) (es : List MinEdge) → In e es → In (reads_of e) (map reads_of es)
In-reads e [] i = absurd i
In-reads e (f ∷ es) (inl q) = inl (ap reads_of q)
In-reads e (f ∷ es) (inr i) = inr (In-reads e es i)

In-reads_from : (r : Reads) (es : List MinEdge) → In r (map reads_of es) → (e : MinEdge) × In e es × (reads_of e ≡ r)
In-reads_from r [] i = absurd i
In-reads_from r (f ∷ es) (inl q) = (f, inl refl, q)
In-reads_from r (f ∷ es) (inr i) = let p = In-reads_from r es i in (p.0, inr p.1, p.2)

pub precedes : (f : MinEdge) (es : List MinEdge) → AreOrdered (f ∷ es) → (e : MinEdge) → In e es → Precedes (reads_of f) (reads_of e)
precedes f es o e i =
    first_precedes (reads_of f) (map reads_of es) o.ascending
    (λ r j. let p = In-reads_from r es j in subst HasKeys p.2 (o.each p.0 (inr p.1)).keys) (reads_of e) (In-reads e es i)

abbrev pub Has : ℤ → MinEdge → Type 0
Has k e = in_range k e.range ≡ true

-- a key of both stands in the same range, where the same is asked
precedes_same : (k : ℤ) (f e : MinEdge) → Precedes (reads_of f) (reads_of e) → Has k f → Has k e → (f.asks.0 ≡ e.asks.0) × (f.truths.0 < e.truths.0)
precedes_same k f e (inl a) p q = absurd (never f.range.hi e.range.lo k a (range_high k f.range p) (range_low k e.range q))
  where
    never : (a b k : ℤ) → a <ℤ b → k ≤ℤ a → b ≤ℤ k → ⊥
    never a b k x y z = omega (arith, ints)
precedes_same k f e (inr a) p q = (a.1, a.2)

-- ---- what is asked at a key

same_asks : (k : ℤ) (es : List MinEdge) → AreOrdered es → (e f : MinEdge) → In e es → In f es → Has k e → Has k f → e.asks.0 ≡ f.asks.0
same_asks k [] o e f i j p q = absurd i
same_asks k (g ∷ es) o e f (inl a) (inl b) p q = ap (λ (w : MinEdge). w.asks.0) (sym a ∙ b)
same_asks k (g ∷ es) o e f (inl a) (inr j) p q =
    ap (λ (w : MinEdge). w.asks.0) (sym a) ∙ (precedes_same k g f (precedes g es o f j) (subst (Has k) (sym a) p) q).0
same_asks k (g ∷ es) o e f (inr i) (inl b) p q =
    sym (precedes_same k g e (precedes g es o e i) (subst (Has k) (sym b) q) p).0 ∙ ap (λ (w : MinEdge). w.asks.0) b
same_asks k (g ∷ es) o e f (inr i) (inr j) p q = same_asks k es (rest_ordered g es o) e f i j p q

or_same : (a : ℕ) → bit_or a a ≡ a
or_same = or_self

none_or : (a : ℕ) → bit_or 0 a ≡ a
none_or = or_zero_l

-- where no edge has the key nothing is asked
pub asks_none : (k : ℤ) (es : List MinEdge) → ((e : MinEdge) → In e es → in_range k e.range ≡ false) → asks_at k (map reads_of es) ≡ 0
asks_none k [] n = refl
asks_none k (f ∷ es) n = (λ i. bit_or (cond (n f (inl refl) i) f.asks.0 0) (asks_at k (map reads_of es))) ∙ none_or (asks_at k (map reads_of es)) ∙ asks_none k es (λ e i. n e (inr i))

or_either : (a x y : ℕ) → (x ≡ 0) ⊎ (x ≡ a) → y ≡ a → bit_or x y ≡ a
or_either a x y (inl p) q = (λ i. bit_or (p i) (q i)) ∙ none_or a
or_either a x y (inr p) q = (λ i. bit_or (p i) (q i)) ∙ or_same a

either_or : (a x y : ℕ) → x ≡ a → (y ≡ 0) ⊎ (y ≡ a) → bit_or x y ≡ a
either_or a x y p (inl q) = (λ i. bit_or (p i) (q i)) ∙ or_none a
either_or a x y p (inr q) = (λ i. bit_or (p i) (q i)) ∙ or_same a

or_both : (a x y : ℕ) → (x ≡ 0) ⊎ (x ≡ a) → (y ≡ 0) ⊎ (y ≡ a) → (bit_or x y ≡ 0) ⊎ (bit_or x y ≡ a)
or_both a x y (inl p) (inl q) = inl ((λ i. bit_or (p i) (q i)) ∙ none_or 0)
or_both a x y (inl p) (inr q) = inr ((λ i. bit_or (p i) (q i)) ∙ none_or a)
or_both a x y (inr p) q = inr (either_or a x y p q)

own_either : (k : ℤ) (a : ℕ) (f : MinEdge) → (Has k f → f.asks.0 ≡ a) → (own_asks k (reads_of f) ≡ 0) ⊎ (own_asks k (reads_of f) ≡ a)
own_either k a f h = (elim (in_range k f.range) as (λ b. in_range k f.range ≡ b → (cond b f.asks.0 0 ≡ 0) ⊎ (cond b f.asks.0 0 ≡ a)) [ true ↦ λ t. inr (h t) | false ↦ λ t. inl refl ]) refl

asks_either : (k : ℤ) (a : ℕ) (es : List MinEdge) → ((f : MinEdge) → In f es → Has k f → f.asks.0 ≡ a) → (asks_at k (map reads_of es) ≡ 0) ⊎ (asks_at k (map reads_of es) ≡ a)
asks_either k a [] h = inl refl
asks_either k a (f ∷ es) h = or_both a (own_asks k (reads_of f)) (asks_at k (map reads_of es)) (own_either k a f (h f (inl refl))) (asks_either k a es (λ g i. h g (inr i)))

asks_all : (k : ℤ) (a : ℕ) (es : List MinEdge) → ((f : MinEdge) → In f es → Has k f → f.asks.0 ≡ a) → (e : MinEdge) → In e es → Has k e → asks_at k (map reads_of es) ≡ a
asks_all k a [] h e i p = absurd i
asks_all k a (f ∷ es) h e (inl q) p =
    either_or a (own_asks k (reads_of f)) (asks_at k (map reads_of es))
    ((λ i. cond (subst (Has k) (sym q) p i) f.asks.0 0) ∙ h f (inl refl) (subst (Has k) (sym q) p)) (asks_either k a es (λ g i. h g (inr i)))
asks_all k a (f ∷ es) h e (inr i) p =
    or_either a (own_asks k (reads_of f)) (asks_at k (map reads_of es)) (own_either k a f (h f (inl refl))) (asks_all k a es (λ g i. h g (inr i)) e i p)

-- at a key of an edge its conditions are asked
pub asks_there : (k : ℤ) (es : List MinEdge) → AreOrdered es → (e : MinEdge) → In e es → Has k e → asks_at k (map reads_of es) ≡ e.asks.0
asks_there k es o e i p = asks_all k e.asks.0 es (λ f j q. same_asks k es o f e j i q p) e i p

-- ---- which edge takes a letter

pub taken : (l : Letter) (e : MinEdge) → takes l (reads_of e) ≡ true → Has l.key e × (bit_and l.truths e.asks.0 ≡ e.truths.0)
taken l e t = let p = split_and (in_range l.key e.range) (nat_eq (bit_and l.truths e.asks.0) e.truths.0) t in (p.0, eqb-true (bit_and l.truths e.asks.0) e.truths.0 p.1)

pub takes_from : (l : Letter) (e : MinEdge) → Has l.key e → bit_and l.truths e.asks.0 ≡ e.truths.0 → takes l (reads_of e) ≡ true
takes_from l e p q = and_true (in_range l.key e.range) (nat_eq (bit_and l.truths e.asks.0) e.truths.0) p (eq-eqb (bit_and l.truths e.asks.0) e.truths.0 q)

-- an edge that takes the letter is the one that is found
pub edge_found : (l : Letter) (es : List MinEdge) → AreOrdered es → (e : MinEdge) → In e es → takes l (reads_of e) ≡ true → edge_for l es ≡ Some e
edge_found l [] o e i t = absurd i
edge_found l (f ∷ es) o e (inl q) t = (λ i. cond (subst (λ w. takes l (reads_of w) ≡ true) (sym q) t i) (Some f) (edge_for l es)) ∙ ap Some q
edge_found l (f ∷ es) o e (inr j) t =
    (elim (takes l (reads_of f)) as (λ b. takes l (reads_of f) ≡ b → cond b (Some f) (edge_for l es) ≡ Some e) [
      | true ↦ λ u. absurd (both u)
      | false ↦ λ u. edge_found l es (rest_ordered f es o) e j t
    ]) refl
  where
    both : takes l (reads_of f) ≡ true → ⊥
    both u =
        let p = taken l f u in
        let q = taken l e t in
        let s = precedes_same l.key f e (precedes f es o e j) p.0 q.0 in
        let same : f.truths.0 ≡ e.truths.0 = sym p.1 ∙ ap (bit_and l.truths) s.0 ∙ q.1 in
        let less : f.truths.0 < e.truths.0 = s.1 in
        omega arith

-- ---- the edges of two states

some_is : (x y : List ActionId) → Some x ≡ Some y → x ≡ y
some_is x y e = cc

none_is : {X : Type 0} (x : X) → None ≡ Some x → ⊥
none_is x e = cc

has_or_none : (k : ℤ) (es : List MinEdge) → ((e : MinEdge) × In e es × Has k e) ⊎ ((e : MinEdge) → In e es → in_range k e.range ≡ false)
has_or_none k [] = inr (λ e i. absurd i)
has_or_none k (f ∷ es) =
    (elim (in_range k f.range) as (λ b. in_range k f.range ≡ b → ((e : MinEdge) × In e (f ∷ es) × Has k e) ⊎ ((e : MinEdge) → In e (f ∷ es) → in_range k e.range ≡ false)) [
      | true ↦ λ t. inl (f, inl refl, t)
      | false ↦ λ t. elim (has_or_none k es) [
        | inl p ↦ inl (p.0, inr p.1, p.2)
        | inr n ↦ inr (λ e i. elim i [ inl q ↦ subst (λ (w : MinEdge). in_range k w.range ≡ false) q t | inr j ↦ n e j ])
      ]
    ]) refl

module _ (es fs : List MinEdge) (eo : AreOrdered es) (fo : AreOrdered fs) where
  Covers : Type 0
  Covers = (e : MinEdge) → In e es → IsCovered fs e

  -- what an edge that is covered does the others do
  covered_step : (l : Letter) (e : MinEdge) → In e es → takes l (reads_of e) ≡ true → IsCovered fs e → list_on l fs ≡ Some e.list
  covered_step l e i t c =
      let p = taken l e t in
      let h = c.each l.key p.0 in
      let u : takes l (reads_of h.edge) ≡ true = takes_from l h.edge h.has (ap (bit_and l.truths) (sym h.like.asks) ∙ p.1 ∙ h.like.truths) in
      ap (option_map (λ (e : MinEdge). e.list)) (edge_found l fs fo h.edge h.there u) ∙ ap Some (sym h.like.list)

  covered_asks : (k : ℤ) (e : MinEdge) → In e es → Has k e → IsCovered fs e → asks_at k (map reads_of es) ≡ asks_at k (map reads_of fs)
  covered_asks k e i p c =
      let h = c.each k p in
      asks_there k es eo e i p ∙ h.like.asks ∙ sym (asks_there k fs fo h.edge h.there h.has)

  -- where both do the same each edge is covered
  pub alike_covers : StepAlike es fs → (e : MinEdge) → In e es → IsCovered fs e
  alike_covers a e i = record { each = λ k p. at k p }
    where
      at : (k : ℤ) → in_range k e.range ≡ true → HasLike e fs k
      at k p =
          let l : Letter = record { key = k; truths = e.truths.0 } in
          let found : edge_for l es ≡ Some e = edge_found l es eo e i (takes_from l e p (eo.each e i).truths) in
          by (edge_for l fs) refl (sym (ap (option_map (λ (e : MinEdge). e.list)) found) ∙ a.lists l)
        where
          by : (o : Option MinEdge) → edge_for (record { key = k; truths = e.truths.0 }) fs ≡ o → Some e.list ≡ option_map (λ (e : MinEdge). e.list) o → HasLike e fs k
          by None q s = absurd (none_is e.list (sym s))
          by (Some f) q s =
              let j = edge_from (record { key = k; truths = e.truths.0 }) fs f q in
              let t = taken (record { key = k; truths = e.truths.0 }) f j.1 in
              let asks : e.asks.0 ≡ f.asks.0 = sym (asks_there k es eo e i p) ∙ a.asked k ∙ asks_there k fs fo f j.0 t.0 in
              record {
                edge = f;
                there = j.0;
                has = t.0;
                like = record { asks = asks; truths = sym (eo.each e i).truths ∙ ap (bit_and e.truths.0) asks ∙ t.1; list = some_is e.list f.list s };
              }

-- what covers an edge of the others goes back and forth
module _ (es fs : List MinEdge) (eo : AreOrdered es) (fo : AreOrdered fs) (forth : (e : MinEdge) → In e es → IsCovered fs e) (back : (f : MinEdge) → In f fs → IsCovered es f) where
  pub covers_alike : StepAlike es fs
  covers_alike = record { asked = asked; lists = lists }
    where
      asked : (key : ℤ) → asks_at key (map reads_of es) ≡ asks_at key (map reads_of fs)
      asked k = elim (has_or_none k es) [
        | inl p ↦ covered_asks es fs eo fo k p.0 p.1 p.2 (forth p.0 p.1)
        | inr n ↦ elim (has_or_none k fs) [
          | inl q ↦ let h = (back q.0 q.1).each k q.2 in absurd (true≢false (sym h.has ∙ n h.edge h.there))
          | inr o ↦ asks_none k es n ∙ sym (asks_none k fs o)
        ]
      ]

      lists : (l : Letter) → list_on l es ≡ list_on l fs
      lists l = by (edge_for l es) refl (edge_for l fs) refl
        where
          by : (o : Option MinEdge) → edge_for l es ≡ o → (p : Option MinEdge) → edge_for l fs ≡ p → list_on l es ≡ list_on l fs
          by (Some e) q p r = let j = edge_from l es e q in
              ap (option_map (λ (e : MinEdge). e.list)) q ∙ sym (covered_step es fs eo fo l e j.0 j.1 (forth e j.0))
          by None q (Some f) r = let j = edge_from l fs f r in
              covered_step fs es fo eo l f j.0 j.1 (back f j.0) ∙ sym (ap (option_map (λ (e : MinEdge). e.list)) r)
          by None q None r = ap (option_map (λ (e : MinEdge). e.list)) q ∙ sym (ap (option_map (λ (e : MinEdge). e.list)) r)

-- ---- as the code decides it

alike_back : (es fs : List MinEdge) → StepAlike es fs → StepAlike fs es
alike_back es fs a = record { asked = λ k. sym (a.asked k); lists = λ l. sym (a.lists l) }

pub alike_from : (es fs : List MinEdge) → AreSound es → AreSound fs → All (IsCovered fs) es → All (IsCovered es) fs → StepAlike es fs
alike_from es fs a b c d = covers_alike es fs (ordered es a) (ordered fs b) (λ e i. All-In (IsCovered fs) es e c i) (λ f i. All-In (IsCovered es) fs f d i)

pub alike_to : (es fs : List MinEdge) → AreSound es → AreSound fs → StepAlike es fs → All (IsCovered fs) es
alike_to es fs a b s = All-from_In (IsCovered fs) es (alike_covers es fs (ordered es a) (ordered fs b) s)

pub alike_to_back : (es fs : List MinEdge) → AreSound es → AreSound fs → StepAlike es fs → All (IsCovered es) fs
alike_to_back es fs a b s = alike_to fs es b a (alike_back es fs s)

-- the edges of a state are sound
pub sound_edges : (m : Minimal) → IsMinimal m → (i : ℕ) (s : MinState) → slice_get m.states i ≡ Some s → AreSound s.edges
sound_edges m h i s at = let r = (h.states i s at).edges in record {
  each = All-from_In AreReads s.edges (λ e j. (All-In (IsEdge m.states s) s.edges e r.each j).reads);
  ascending = r.ascending;
}
