-- The runs of a state ascend, and their ends are keys of the alphabet.
use Rattle.std.proofs.Common.{◌≡◌, ℕ, zero, suc, ◌+◌, ◌<◌, Bool, true, false, true≢false, cond, ℤ, ◌<ℤ◌, ◌≤ℤ◌, List, [], ◌∷◌, ◌++◌, Some, refl, sym, ap, ◌∙◌, subst, inl, inr, ◌⊎◌, arith}
use Rattle.std.specs.Prelude.{slice_get}
use Rattle.std.specs.List.{AllByRecursion, filter}
use Rattle.std.proofs.lemmas.Int.{ints}
use Rattle.std.proofs.lemmas.List.{append-nil}
use Rattle.std.proofs.lemmas.Bool.{and_parts, cases_order}
use Rattle.rl_types.specs.declared.alphabet.Alphabet.{Alphabet}
use Rattle.rl_types.specs.Alphabet.{has_key}
use Rattle.rl_types.specs.KeyRange.{Range}
use Rattle.rl_minimal.specs.declared.state.MinEdge.{MinEdge}
use Rattle.rl_minimal.specs.Sound.{AreReads}
use Rattle.rl_model.specs.WellFormed.{IsInAlphabet}
use Rattle.rl_layout.specs.declared.runs.Run.{Run}
use Rattle.rl_layout.specs.Runs.{has_ends, continues, with_run, merged_on, grouped, runs_of}
use Rattle.rl_layout.proofs.ListLaws.{all_at}
use Rattle.rl_layout.proofs.RunLaws.{alone}
use Rattle.rl_layout.proofs.EdgeLaws.{Chain}
use Rattle.rl_layout.proofs.GroupLaws.{range_of_run, Begun, grouped_from, grouped_push, goes_on, begins_anew, same_ends, not_ends, next_goes, chain_rest}

-- ---- runs that ascend

abbrev pub Lows : ℤ → List Run → Type 0
Lows x runs = AllByRecursion (λ (r : Run). x <ℤ r.lo) runs

-- each run ends below those behind it
abbrev pub Ascend : List Run → Type 0
Ascend [] = Unit {0}
Ascend (r ∷ runs) = Lows r.hi runs × Ascend runs

over : (x y u v : ℤ) → x <ℤ y → y ≤ℤ u → u <ℤ v → x <ℤ v
over x y u v p q s = omega (arith, ints)

next_below : (edges pre : List MinEdge) (c : MinEdge) (cs : List MinEdge) (e : MinEdge) (es : List MinEdge) (r : Run) (place asks : ℕ) → Begun edges pre c cs (e ∷ es) r place asks → has_ends e.range r ≡ false → r.hi <ℤ e.range.lo
next_below edges pre c cs e es r place asks b h = by b.goes
  where
    by : (r.hi <ℤ e.range.lo) ⊎ ((e.range ≡ range_of_run r) × (e.asks.0 ≡ asks)) → r.hi <ℤ e.range.lo
    by (inl l) = l
    by (inr p) = absurd (true≢false (sym (not_ends e.range r p.0) ∙ h))

same_next : (edges pre : List MinEdge) (c : MinEdge) (cs : List MinEdge) (e : MinEdge) (es : List MinEdge) (r : Run) (place asks : ℕ) → Begun edges pre c cs (e ∷ es) r place asks → has_ends e.range r ≡ true → (e.range ≡ range_of_run r) × (e.asks.0 ≡ asks)
same_next edges pre c cs e es r place asks b h = by b.goes
  where
    not_above : (x y z : ℤ) → x ≤ℤ y → z ≡ x → y <ℤ z → ⊥
    not_above x y z p q s = omega (arith, ints)

    by : (r.hi <ℤ e.range.lo) ⊎ ((e.range ≡ range_of_run r) × (e.asks.0 ≡ asks)) → (e.range ≡ range_of_run r) × (e.asks.0 ≡ asks)
    by (inl l) = absurd (not_above r.lo r.hi e.range.lo b.ordered (ap (λ (x : Range). x.lo) (same_ends e.range r h)) l)
    by (inr p) = p

ascend_from : (es edges pre : List MinEdge) (c : MinEdge) (cs : List MinEdge) (r : Run) (place asks : ℕ) → Begun edges pre c cs es r place asks → Ascend (grouped_from r place es) × ((x : ℤ) → x <ℤ r.lo → Lows x (grouped_from r place es))
ascend_from [] edges pre c cs r place asks b = ((tt, tt), (λ x l. (l, tt)))
ascend_from (e ∷ es) edges pre c cs r place asks b = by (has_ends e.range r) refl (ascend_from es edges pre c (cs ++ e ∷ []) (record r { end = place + 1 }) (place + 1) asks) (ascend_from es edges (pre ++ (c ∷ cs)) e [] (alone place e.range) (place + 1) e.asks.0)
  where
    by : (t : Bool) → has_ends e.range r ≡ t
        → (Begun edges pre c (cs ++ e ∷ []) es (record r { end = place + 1 }) (place + 1) asks → Ascend (grouped_from (record r { end = place + 1 }) (place + 1) es) × ((x : ℤ) → x <ℤ r.lo → Lows x (grouped_from (record r { end = place + 1 }) (place + 1) es)))
        → (Begun edges (pre ++ (c ∷ cs)) e [] es (alone place e.range) (place + 1) e.asks.0 → Ascend (grouped_from (alone place e.range) (place + 1) es) × ((x : ℤ) → x <ℤ e.range.lo → Lows x (grouped_from (alone place e.range) (place + 1) es)))
        → Ascend (cond t (grouped_from (record r { end = place + 1 }) (place + 1) es) (r ∷ grouped_from (alone place e.range) (place + 1) es)) × ((x : ℤ) → x <ℤ r.lo → Lows x (cond t (grouped_from (record r { end = place + 1 }) (place + 1) es) (r ∷ grouped_from (alone place e.range) (place + 1) es)))
    by true h on anew = let p = same_next edges pre c cs e es r place asks b h in on (goes_on edges pre c cs e es r place asks b p.0 p.1)
    by false h on anew =
        let l = next_below edges pre c cs e es r place asks b h in
        let p = anew (begins_anew edges pre c cs e es r place asks b l) in
        ((p.1 r.hi l, p.0), (λ x k. (k, p.1 x (over x r.lo r.hi e.range.lo k b.ordered l))))

pub grouped_ascend : (edges : List MinEdge) → AllByRecursion AreReads edges → Chain edges → Ascend (grouped edges)
grouped_ascend [] a c = tt
grouped_ascend (e ∷ es) a c = subst Ascend (sym (grouped_push es 1 [] (alone 0 e.range))) (ascend_from es (e ∷ es) [] e [] (alone 0 e.range) 1 e.asks.0 (record {
  whole = refl;
  first = refl;
  end = refl;
  place_is = refl;
  ordered = a.0.keys;
  own = (record { range_is = refl; asks_is = refl; truths = a.0.truths }, tt);
  small = a.0.asks;
  before = tt;
  goes = next_goes e es (alone 0 e.range) e.asks.0 refl refl c;
  chain = chain_rest e es c;
  reads = a.1;
})).0

-- ---- with one more run

lows_kept : (x : ℤ) (edges : List MinEdge) (s : Run) (runs rest : List Run) → Lows x (runs ++ s ∷ rest) → Lows x (with_run edges s runs ++ rest)
lows_kept x edges s [] rest l = l
lows_kept x edges s (r ∷ []) rest l = by (continues edges r s)
  where
    by : (t : Bool) → Lows x (cond t ((record r { hi = s.hi }) ∷ []) (r ∷ s ∷ []) ++ rest)
    by true = (l.0, l.1.1)
    by false = l
lows_kept x edges s (r ∷ q ∷ runs) rest l = (l.0, lows_kept x edges s (q ∷ runs) rest l.1)

ascend_kept : (edges : List MinEdge) (s : Run) (runs rest : List Run) → Ascend (runs ++ s ∷ rest) → Ascend (with_run edges s runs ++ rest)
ascend_kept edges s [] rest a = a
ascend_kept edges s (r ∷ []) rest a = by (continues edges r s)
  where
    by : (t : Bool) → Ascend (cond t ((record r { hi = s.hi }) ∷ []) (r ∷ s ∷ []) ++ rest)
    by true = a.1
    by false = a
ascend_kept edges s (r ∷ q ∷ runs) rest a = (lows_kept r.hi edges s (q ∷ runs) rest a.0, ascend_kept edges s (q ∷ runs) rest a.1)

merged_ascend : (rest : List Run) (edges : List MinEdge) (runs : List Run) → Ascend (runs ++ rest) → Ascend (merged_on edges runs rest)
merged_ascend [] edges runs a = subst Ascend (append-nil runs) a
merged_ascend (s ∷ rest) edges runs a = merged_ascend rest edges (with_run edges s runs) (ascend_kept edges s runs rest a)

pub runs_ascend : (edges : List MinEdge) → AllByRecursion AreReads edges → Chain edges → Ascend (runs_of edges)
runs_ascend edges a c = merged_ascend (grouped edges) edges [] (grouped_ascend edges a c)

-- ---- some of them

lows_filter : (p : Run → Bool) (x : ℤ) (runs : List Run) → Lows x runs → Lows x (filter p runs)
lows_filter p x [] l = tt
lows_filter p x (r ∷ runs) l = by (p r) (lows_filter p x runs l.1)
  where
    by : (b : Bool) → Lows x (filter p runs) → Lows x (cond b (r ∷ filter p runs) (filter p runs))
    by true k = (l.0, k)
    by false k = k

pub ascend_filter : (p : Run → Bool) (runs : List Run) → Ascend runs → Ascend (filter p runs)
ascend_filter p [] a = tt
ascend_filter p (r ∷ runs) a = by (p r) (ascend_filter p runs a.1)
  where
    by : (b : Bool) → Ascend (filter p runs) → Ascend (cond b (r ∷ filter p runs) (filter p runs))
    by true k = (lows_filter p r.hi runs a.0, k)
    by false k = k

-- an element that passes stands at a place of the whole list
pub filter_get : (p : Run → Bool) (runs : List Run) (i : ℕ) (r : Run) → slice_get (filter p runs) i ≡ Some r → (j : ℕ) × (slice_get runs j ≡ Some r) × (p r ≡ true)
filter_get p [] i r e = absurd cc
filter_get p (q ∷ runs) i r e = by (p q) refl i e (filter_get p runs)
  where
    by : (b : Bool) → p q ≡ b → (i : ℕ) → slice_get (cond b (q ∷ filter p runs) (filter p runs)) i ≡ Some r → ((i : ℕ) (r : Run) → slice_get (filter p runs) i ≡ Some r → (j : ℕ) × (slice_get runs j ≡ Some r) × (p r ≡ true)) → (j : ℕ) × (slice_get (q ∷ runs) j ≡ Some r) × (p r ≡ true)
    by true h zero e f = let same : q ≡ r = cc in (0, e, ap p (sym same) ∙ h)
    by true h (suc i) e f = let k = f i r e in (suc k.0, k.1, k.2)
    by false h i e f = let k = f i r e in (suc k.0, k.1, k.2)

-- of two runs the one before ends below the other
pub ascend_at : (runs : List Run) (i j : ℕ) (r s : Run) → Ascend runs → slice_get runs i ≡ Some r → slice_get runs j ≡ Some s → i < j → r.hi <ℤ s.lo
ascend_at [] i j r s a e h l = absurd cc
ascend_at (q ∷ runs) zero zero r s a e h l = absurd (omega arith)
ascend_at (q ∷ runs) zero (suc j) r s a e h l = let same : q ≡ r = cc in subst (λ (t : Run). t.hi <ℤ s.lo) same (all_at (λ (t : Run). q.hi <ℤ t.lo) runs j s a.0 h)
ascend_at (q ∷ runs) (suc i) zero r s a e h l = absurd (omega arith)
ascend_at (q ∷ runs) (suc i) (suc j) r s a e h l = ascend_at runs i j r s a.1 e h (omega arith)

-- two runs with a key in common are one
pub one_run : (runs : List Run) (i j : ℕ) (r s : Run) (key : ℤ) → Ascend runs → slice_get runs i ≡ Some r → slice_get runs j ≡ Some s → r.lo ≤ℤ key → key ≤ℤ r.hi → s.lo ≤ℤ key → key ≤ℤ s.hi → r ≡ s
one_run runs i j r s key a e h l g k n = elim (cases_order i j) [
  | inl same ↦ let there : slice_get runs j ≡ Some r = ap (slice_get runs) (sym same) ∙ e in cc
  | inr other ↦ elim other [
    | inl less ↦ absurd (no_key r.hi s.lo key g k (ascend_at runs i j r s a e h less))
    | inr more ↦ absurd (no_key s.hi r.lo key n l (ascend_at runs j i s r a h e more))
  ]
]
  where
    no_key : (x y k : ℤ) → k ≤ℤ x → y ≤ℤ k → x <ℤ y → ⊥
    no_key x y k p q s = omega (arith, ints)

-- ---- keys of the alphabet

module _ (alphabet : Alphabet) where
  abbrev pub AreKeys : Run → Type 0
  AreKeys r = (has_key alphabet r.lo ≡ true) × (has_key alphabet r.hi ≡ true)

  edge_keys : (e : MinEdge) → IsInAlphabet alphabet e.range → (has_key alphabet e.range.lo ≡ true) × (has_key alphabet e.range.hi ≡ true)
  edge_keys e h = and_parts (has_key alphabet e.range.lo) (has_key alphabet e.range.hi) h

  keys_from : (es : List MinEdge) (r : Run) (place : ℕ) → AreKeys r → AllByRecursion (λ (e : MinEdge). IsInAlphabet alphabet e.range) es → AllByRecursion AreKeys (grouped_from r place es)
  keys_from [] r place k a = (k, tt)
  keys_from (e ∷ es) r place k a = by (has_ends e.range r) (keys_from es (record r { end = place + 1 }) (place + 1) k a.1) (keys_from es (alone place e.range) (place + 1) (edge_keys e a.0) a.1)
    where
      by : (t : Bool) → AllByRecursion AreKeys (grouped_from (record r { end = place + 1 }) (place + 1) es) → AllByRecursion AreKeys (grouped_from (alone place e.range) (place + 1) es) → AllByRecursion AreKeys (cond t (grouped_from (record r { end = place + 1 }) (place + 1) es) (r ∷ grouped_from (alone place e.range) (place + 1) es))
      by true on anew = on
      by false on anew = (k, anew)

  grouped_keys : (edges : List MinEdge) → AllByRecursion (λ (e : MinEdge). IsInAlphabet alphabet e.range) edges → AllByRecursion AreKeys (grouped edges)
  grouped_keys [] a = tt
  grouped_keys (e ∷ es) a = subst (AllByRecursion AreKeys) (sym (grouped_push es 1 [] (alone 0 e.range))) (keys_from es (alone 0 e.range) 1 (edge_keys e a.0) a.1)

  run_keys : (edges : List MinEdge) (s : Run) (runs : List Run) → AreKeys s → AllByRecursion AreKeys runs → AllByRecursion AreKeys (with_run edges s runs)
  run_keys edges s [] k a = (k, tt)
  run_keys edges s (r ∷ []) k a = by (continues edges r s)
    where
      by : (t : Bool) → AllByRecursion AreKeys (cond t ((record r { hi = s.hi }) ∷ []) (r ∷ s ∷ []))
      by true = ((a.0.0, k.1), tt)
      by false = (a.0, (k, tt))
  run_keys edges s (r ∷ q ∷ runs) k a = (a.0, run_keys edges s (q ∷ runs) k a.1)

  merged_keys : (rest : List Run) (edges : List MinEdge) (runs : List Run) → AllByRecursion AreKeys runs → AllByRecursion AreKeys rest → AllByRecursion AreKeys (merged_on edges runs rest)
  merged_keys [] edges runs a b = a
  merged_keys (s ∷ rest) edges runs a b = merged_keys rest edges (with_run edges s runs) (run_keys edges s runs b.0 a) b.1

  pub runs_keys : (edges : List MinEdge) → AllByRecursion (λ (e : MinEdge). IsInAlphabet alphabet e.range) edges → AllByRecursion AreKeys (runs_of edges)
  runs_keys edges a = merged_keys (grouped edges) edges [] tt (grouped_keys edges a)
