-- The runs of equal ranges are right: at each key of a run the edges step as those of the run do.
use Rattle.std.proofs.Common.{◌≡◌, ℕ, ◌+◌, ◌-◌, ◌<◌, Bool, true, false, cond, ◌&&◌, ◌||◌, ℤ, ◌<ℤ◌, ◌≤ℤ◌, List, [], ◌∷◌, ◌++◌, length, map, take, drop, refl, sym, ap, ◌∙◌, subst, inl, inr, ◌⊎◌, arith, append_assoc, length-append, bit_and, true≢false}
use Rattle.std.specs.List.{AllByRecursion}
use Rattle.std.specs.Ordering.{int_eq}
use Rattle.std.specs.Option.{option_map}
use Rattle.std.proofs.Math.Seq.{take-append_seam, drop-append_seam}
use Rattle.std.proofs.lemmas.Bool.{and_parts, or_parts}
use Rattle.std.proofs.lemmas.Int.{ints}
use Rattle.rl_types.specs.declared.numbers.Letter.{Letter}
use Rattle.rl_types.specs.KeyRange.{Range, in_range}
use Rattle.rl_fsm.specs.Reads.{asks_at}
use Rattle.rl_fsm.proofs.PieceLaws.{range_low, range_high, below_range, above_range}
use Rattle.rl_fsm.proofs.Ascending.{Precedes}
use Rattle.rl_arrays.specs.TableMachine.{asked_bits, entry_number}
use Rattle.rl_minimal.specs.declared.state.MinEdge.{MinEdge}
use Rattle.rl_minimal.specs.Minimal.{reads_of}
use Rattle.rl_minimal.specs.Machine.{edge_for, go_of}
use Rattle.rl_minimal.specs.Sound.{AreReads}
use Rattle.rl_layout.specs.declared.runs.Run.{Run}
use Rattle.rl_layout.specs.Runs.{edges_of, has_ends, grouped_on, grouped}
use Rattle.rl_layout.specs.Cells.{edge_at, asks_of, first_asks}
use Rattle.rl_layout.proofs.ListLaws.{all_append}
use Rattle.rl_layout.proofs.RunLaws.{alone, with_edge-push}
use Rattle.rl_layout.proofs.EdgeLaws.{Outside, Has, Chain, Above, Below, asks_outside, asks_block, edge_outside, edge_block, all_above}

abbrev pub range_of_run : Run → Range
range_of_run r = record { lo = r.lo; hi = r.hi }

abbrev pub in_run : ℤ → Run → Bool
in_run key r = in_range key (range_of_run r)

-- at each key of the run the edges ask and step as the run's own do
pub record IsRight (edges : List MinEdge) (r : Run) : Type 0 where
  pub ordered : r.lo ≤ℤ r.hi
  pub small : asks_of edges r < 256
  pub asks : (key : ℤ) → in_run key r ≡ true → asks_at key (map reads_of edges) ≡ asks_of edges r
  pub step : (l : Letter) → in_run l.key r ≡ true → option_map go_of (edge_for l edges) ≡ option_map go_of (edge_at (asks_of edges r) (entry_number (asked_bits (asks_of edges r)) l.truths) (edges_of edges r))

abbrev pub AreRight : List MinEdge → List Run → Type 0
AreRight edges runs = AllByRecursion (IsRight edges) runs

-- some run has the key
abbrev pub held : ℤ → List Run → Bool
held key [] = false
held key (r ∷ runs) = in_run key r || held key runs

-- ---- grouped, along the edges

-- the runs of edges from a place on, behind those of a run that has begun
abbrev pub grouped_from : Run → ℕ → List MinEdge → List Run
grouped_from r place [] = r ∷ []
grouped_from r place (e ∷ es) = cond (has_ends e.range r) (grouped_from (record r { end = place + 1 }) (place + 1) es) (r ∷ grouped_from (alone place e.range) (place + 1) es)

joined : (place : ℕ) (runs : List Run) (r : Run) (e : MinEdge) (es : List MinEdge) (b : Bool) → ((rs : List Run) (q : Run) → grouped_on (place + 1) (rs ++ q ∷ []) es ≡ rs ++ grouped_from q (place + 1) es)
    → grouped_on (place + 1) (runs ++ cond b ((record r { end = place + 1 }) ∷ []) (r ∷ alone place e.range ∷ [])) es ≡ runs ++ cond b (grouped_from (record r { end = place + 1 }) (place + 1) es) (r ∷ grouped_from (alone place e.range) (place + 1) es)
joined place runs r e es true rest = rest runs (record r { end = place + 1 })
joined place runs r e es false rest =
    ap (λ w. grouped_on (place + 1) w es) (sym (append_assoc runs (r ∷ []) (alone place e.range ∷ []))) ∙ rest (runs ++ r ∷ []) (alone place e.range)
    ∙ append_assoc runs (r ∷ []) (grouped_from (alone place e.range) (place + 1) es)

pub grouped_push : (es : List MinEdge) (place : ℕ) (runs : List Run) (r : Run) → grouped_on place (runs ++ r ∷ []) es ≡ runs ++ grouped_from r place es
grouped_push [] place runs r = refl
grouped_push (e ∷ es) place runs r = ap (λ w. grouped_on (place + 1) w es) (with_edge-push place e.range runs r) ∙ joined place runs r e es (has_ends e.range r) (grouped_push es (place + 1))

-- ---- one run

-- the edges of a run: all have its range, and ask the same
pub record IsOf (r : Range) (asks : ℕ) (e : MinEdge) : Type 0 where
  pub range_is : e.range ≡ r
  pub asks_is : e.asks.0 ≡ asks
  pub truths : bit_and e.truths.0 asks ≡ e.truths.0

outside_below : (key lo : ℤ) (es : List MinEdge) → lo ≤ℤ key → Below lo es → Outside key es
outside_below key lo [] l b = tt
outside_below key lo (e ∷ es) l b = (above_range key e.range (less e.range.hi lo key b.0 l), outside_below key lo es l b.1)
  where
    less : (x y z : ℤ) → x <ℤ y → y ≤ℤ z → x <ℤ z
    less x y z p q = omega (arith, ints)

outside_above : (key hi : ℤ) (es : List MinEdge) → key ≤ℤ hi → Above hi es → Outside key es
outside_above key hi [] l b = tt
outside_above key hi (e ∷ es) l b = (below_range key e.range (less key hi e.range.lo l b.0), outside_above key hi es l b.1)
  where
    less : (x y z : ℤ) → x ≤ℤ y → y <ℤ z → x <ℤ z
    less x y z p q = omega (arith, ints)

has_all : (key : ℤ) (r : Range) (asks : ℕ) (es : List MinEdge) → in_range key r ≡ true → AllByRecursion (IsOf r asks) es → AllByRecursion (Has key asks) es
has_all key r asks [] h a = tt
has_all key r asks (e ∷ es) h a = (record { holds = ap (in_range key) a.0.range_is ∙ h; asks_is = a.0.asks_is; truths = a.0.truths }, has_all key r asks es h a.1)

-- edges before it, its own, and edges behind it
module _ (edges pre : List MinEdge) (c : MinEdge) (cs post : List MinEdge) (r : Run) (asks : ℕ)
    (whole : edges ≡ pre ++ (c ∷ (cs ++ post))) (first : r.first ≡ length pre) (end : r.end ≡ length pre + length (c ∷ cs))
    (ordered : r.lo ≤ℤ r.hi) (own : AllByRecursion (IsOf (range_of_run r) asks) (c ∷ cs)) (small : asks < 256) (before : Below r.lo pre) (behind : Above r.hi post) where
  own_edges : edges_of edges r ≡ c ∷ cs
  own_edges =
      let count : r.end - r.first ≡ length (c ∷ cs) = omega (arith, first, end) in
      (λ i. take (count i) (drop (first i) (whole i))) ∙ ap (take (length (c ∷ cs))) (drop-append_seam pre ((c ∷ cs) ++ post)) ∙ take-append_seam (c ∷ cs) post

  own_asks : asks_of edges r ≡ asks
  own_asks = ap first_asks own_edges ∙ own.0.asks_is

  right_asks : (key : ℤ) → in_run key r ≡ true → asks_at key (map reads_of edges) ≡ asks_of edges r
  right_asks key h =
      ap (λ w. asks_at key (map reads_of w)) whole ∙ asks_outside key pre (c ∷ (cs ++ post)) (outside_below key r.lo pre (range_low key (range_of_run r) h) before)
      ∙ asks_block key asks c cs post (has_all key (range_of_run r) asks (c ∷ cs) h own) (outside_above key r.hi post (range_high key (range_of_run r) h) behind) ∙ sym own_asks

  right_step : (l : Letter) → in_run l.key r ≡ true → option_map go_of (edge_for l edges) ≡ option_map go_of (edge_at (asks_of edges r) (entry_number (asked_bits (asks_of edges r)) l.truths) (edges_of edges r))
  right_step l h =
      ap (λ w. option_map go_of (edge_for l w)) whole
      ∙ ap (option_map go_of) (edge_outside l pre (c ∷ (cs ++ post)) (outside_below l.key r.lo pre (range_low l.key (range_of_run r) h) before))
      ∙ ap (option_map go_of) (edge_block l asks (c ∷ cs) post small (has_all l.key (range_of_run r) asks (c ∷ cs) h own) (outside_above l.key r.hi post (range_high l.key (range_of_run r) h) behind))
      ∙ sym (λ i. option_map go_of (edge_at (own_asks i) (entry_number (asked_bits (own_asks i)) l.truths) (own_edges i)))

  right_here : IsRight edges r
  right_here = record { ordered = ordered; small = subst (λ n. n < 256) (sym own_asks) small; asks = right_asks; step = right_step }

-- ---- all runs

pub same_ends : (x : Range) (r : Run) → has_ends x r ≡ true → x ≡ range_of_run r
same_ends x r e = let p = and_parts (int_eq r.lo x.lo) (int_eq r.hi x.hi) e in λ i. record { lo = sym (int_same r.lo x.lo p.0) i; hi = sym (int_same r.hi x.hi p.1) i }
  where
    int_same : (x y : ℤ) → int_eq x y ≡ true → x ≡ y
    int_same x y e = grind (arith, ints)

pub not_ends : (x : Range) (r : Run) → x ≡ range_of_run r → has_ends x r ≡ true
not_ends x r e = (λ i. int_eq r.lo (e i).lo && int_eq r.hi (e i).hi) ∙ (λ i. self r.lo i && self r.hi i)
  where
    self : (x : ℤ) → int_eq x x ≡ true
    self x = grind (arith, ints)

-- the next edge has higher keys, or the run's own range and conditions
abbrev pub Goes : Run → ℕ → List MinEdge → Type 0
Goes r asks [] = Unit {0}
Goes r asks (e ∷ es) = (r.hi <ℤ e.range.lo) ⊎ ((e.range ≡ range_of_run r) × (e.asks.0 ≡ asks))

pub next_goes : (e : MinEdge) (es : List MinEdge) (r : Run) (asks : ℕ) → e.range ≡ range_of_run r → e.asks.0 ≡ asks → Chain (e ∷ es) → Goes r asks es
next_goes e [] r asks same asked c = tt
next_goes e (f ∷ es) r asks same asked c = by c.0
  where
    by : Precedes (reads_of e) (reads_of f) → (r.hi <ℤ f.range.lo) ⊎ ((f.range ≡ range_of_run r) × (f.asks.0 ≡ asks))
    by (inl l) = inl (subst (λ (x : Range). x.hi <ℤ f.range.lo) same l)
    by (inr p) = inr (sym p.0 ∙ same, sym p.1 ∙ asked)

pub chain_rest : (e : MinEdge) (es : List MinEdge) → Chain (e ∷ es) → Chain es
chain_rest e [] c = tt
chain_rest e (f ∷ es) c = c.1

below_more : (lo next : ℤ) (es : List MinEdge) → lo ≤ℤ next → Below lo es → Below next es
below_more lo next [] l b = tt
below_more lo next (e ∷ es) l b = (less e.range.hi lo next b.0 l, below_more lo next es l b.1)
  where
    less : (x y z : ℤ) → x <ℤ y → y ≤ℤ z → x <ℤ z
    less x y z p q = omega (arith, ints)

below_own : (r : Run) (asks : ℕ) (next : ℤ) (es : List MinEdge) → r.hi <ℤ next → AllByRecursion (IsOf (range_of_run r) asks) es → Below next es
below_own r asks next [] l a = tt
below_own r asks next (e ∷ es) l a = (subst (λ (x : Range). x.hi <ℤ next) (sym a.0.range_is) l, below_own r asks next es l a.1)

-- a run has begun, with the edges from its first one up to a place
pub record Begun (edges pre : List MinEdge) (c : MinEdge) (cs es : List MinEdge) (r : Run) (place asks : ℕ) : Type 0 where
  pub whole : edges ≡ pre ++ (c ∷ (cs ++ es))
  pub first : r.first ≡ length pre
  pub end : r.end ≡ length pre + length (c ∷ cs)
  pub place_is : place ≡ r.end
  pub ordered : r.lo ≤ℤ r.hi
  pub own : AllByRecursion (IsOf (range_of_run r) asks) (c ∷ cs)
  pub small : asks < 256
  pub before : Below r.lo pre
  pub goes : Goes r asks es
  pub chain : Chain es
  pub reads : AllByRecursion AreReads es

ends_here : (edges pre : List MinEdge) (c : MinEdge) (cs es : List MinEdge) (r : Run) (place asks : ℕ) → Begun edges pre c cs es r place asks → Above r.hi es → IsRight edges r
ends_here edges pre c cs es r place asks b above = right_here edges pre c cs es r asks b.whole b.first b.end b.ordered b.own b.small b.before above

pub goes_on : (edges pre : List MinEdge) (c : MinEdge) (cs : List MinEdge) (e : MinEdge) (es : List MinEdge) (r : Run) (place asks : ℕ) → Begun edges pre c cs (e ∷ es) r place asks → e.range ≡ range_of_run r → e.asks.0 ≡ asks
    → Begun edges pre c (cs ++ e ∷ []) es (record r { end = place + 1 }) (place + 1) asks
goes_on edges pre c cs e es r place asks b same asked = record {
  whole = b.whole ∙ ap (λ w. pre ++ (c ∷ w)) (sym (append_assoc cs (e ∷ []) es));
  first = b.first;
  end = let n = length-append cs (e ∷ []) in let f = b.end in let g = b.place_is in omega (arith, n, f, g);
  place_is = refl;
  ordered = b.ordered;
  own = (b.own.0, all_append (IsOf (range_of_run r) asks) cs (e ∷ []) b.own.1 (record { range_is = same; asks_is = asked; truths = subst (λ n. bit_and e.truths.0 n ≡ e.truths.0) asked b.reads.0.truths }, tt));
  small = b.small;
  before = b.before;
  goes = next_goes e es r asks same asked b.chain;
  chain = chain_rest e es b.chain;
  reads = b.reads.1;
}

pub begins_anew : (edges pre : List MinEdge) (c : MinEdge) (cs : List MinEdge) (e : MinEdge) (es : List MinEdge) (r : Run) (place asks : ℕ) → Begun edges pre c cs (e ∷ es) r place asks → r.hi <ℤ e.range.lo
    → Begun edges (pre ++ (c ∷ cs)) e [] es (alone place e.range) (place + 1) e.asks.0
begins_anew edges pre c cs e es r place asks b above = record {
  whole = b.whole ∙ sym (append_assoc pre (c ∷ cs) (e ∷ es));
  first = let n = length-append pre (c ∷ cs) in let f = b.end in let g = b.place_is in omega (arith, n, f, g);
  end = let n = length-append pre (c ∷ cs) in let f = b.end in let g = b.place_is in omega (arith, n, f, g);
  place_is = refl;
  ordered = b.reads.0.keys;
  own = (record { range_is = refl; asks_is = refl; truths = b.reads.0.truths }, tt);
  small = b.reads.0.asks;
  before = all_append (λ (x : MinEdge). x.range.hi <ℤ e.range.lo) pre (c ∷ cs) (below_more r.lo e.range.lo pre (less r.lo r.hi e.range.lo b.ordered above) b.before) (below_own r asks e.range.lo (c ∷ cs) above b.own);
  goes = next_goes e es (alone place e.range) e.asks.0 refl refl b.chain;
  chain = chain_rest e es b.chain;
  reads = b.reads.1;
}
  where
    less : (x y z : ℤ) → x ≤ℤ y → y <ℤ z → x ≤ℤ z
    less x y z p q = omega (arith, ints)

all_right : (es edges pre : List MinEdge) (c : MinEdge) (cs : List MinEdge) (r : Run) (place asks : ℕ) → Begun edges pre c cs es r place asks → AreRight edges (grouped_from r place es)
all_right [] edges pre c cs r place asks b = (ends_here edges pre c cs [] r place asks b tt, tt)
all_right (e ∷ es) edges pre c cs r place asks b = by (has_ends e.range r) refl b.goes (all_right es edges pre c (cs ++ e ∷ []) (record r { end = place + 1 }) (place + 1) asks) (all_right es edges (pre ++ (c ∷ cs)) e [] (alone place e.range) (place + 1) e.asks.0)
  where
    by : (t : Bool) → has_ends e.range r ≡ t → Goes r asks (e ∷ es)
        → (Begun edges pre c (cs ++ e ∷ []) es (record r { end = place + 1 }) (place + 1) asks → AreRight edges (grouped_from (record r { end = place + 1 }) (place + 1) es))
        → (Begun edges (pre ++ (c ∷ cs)) e [] es (alone place e.range) (place + 1) e.asks.0 → AreRight edges (grouped_from (alone place e.range) (place + 1) es))
        → AreRight edges (cond t (grouped_from (record r { end = place + 1 }) (place + 1) es) (r ∷ grouped_from (alone place e.range) (place + 1) es))
    by true h (inr p) on anew = on (goes_on edges pre c cs e es r place asks b p.0 p.1)
    by true h (inl l) on anew = absurd (not_above r.lo r.hi e.range.lo b.ordered (ap (λ (x : Range). x.lo) (same_ends e.range r h)) l)
      where
        not_above : (x y z : ℤ) → x ≤ℤ y → z ≡ x → y <ℤ z → ⊥
        not_above x y z p q s = omega (arith, ints)
    by false h (inl l) on anew = (ends_here edges pre c cs (e ∷ es) r place asks b (all_above r.hi e es l b.reads b.chain), anew (begins_anew edges pre c cs e es r place asks b l))
    by false h (inr p) on anew = absurd (true≢false (sym (not_ends e.range r p.0) ∙ h))

pub grouped_right : (edges : List MinEdge) → AllByRecursion AreReads edges → Chain edges → AreRight edges (grouped edges)
grouped_right [] a c = tt
grouped_right (e ∷ es) a c = subst (AreRight (e ∷ es)) (sym (grouped_push es 1 [] (alone 0 e.range))) (all_right es (e ∷ es) [] e [] (alone 0 e.range) 1 e.asks.0 (record {
  whole = refl;
  first = refl;
  end = refl;
  place_is = refl;
  ordered = a.0.keys;
  own = (record { range_is = refl; asks_is = refl; truths = a.0.truths }, tt);
  small = a.0.asks;
  before = tt;
  goes = next_goes e es (alone 0 e.range) e.asks.0 refl refl c;
  chain = chain_rest e es c;
  reads = a.1;
}))

-- ---- the runs have all keys

covered : (es : List MinEdge) (key : ℤ) (r : Run) (place : ℕ) → held key (grouped_from r place es) ≡ false → (in_run key r ≡ false) × Outside key es
covered [] key r place h = ((or_parts (in_run key r) false h).0, tt)
covered (e ∷ es) key r place h = by (has_ends e.range r) refl h (covered es key (record r { end = place + 1 }) (place + 1)) (covered es key (alone place e.range) (place + 1))
  where
    by : (t : Bool) → has_ends e.range r ≡ t → held key (cond t (grouped_from (record r { end = place + 1 }) (place + 1) es) (r ∷ grouped_from (alone place e.range) (place + 1) es)) ≡ false
        → (held key (grouped_from (record r { end = place + 1 }) (place + 1) es) ≡ false → (in_run key r ≡ false) × Outside key es)
        → (held key (grouped_from (alone place e.range) (place + 1) es) ≡ false → (in_range key e.range ≡ false) × Outside key es)
        → (in_run key r ≡ false) × Outside key (e ∷ es)
    by true q h on anew = let p = on h in (p.0, (ap (in_range key) (same_ends e.range r q) ∙ p.0, p.1))
    by false q h on anew = let p = or_parts (in_run key r) (held key (grouped_from (alone place e.range) (place + 1) es)) h in (p.0, anew p.1)

pub grouped_covers : (edges : List MinEdge) (key : ℤ) → held key (grouped edges) ≡ false → Outside key edges
grouped_covers [] key h = tt
grouped_covers (e ∷ es) key h = covered es key (alone 0 e.range) 1 (subst (λ w. held key w ≡ false) (grouped_push es 1 [] (alone 0 e.range)) h)
