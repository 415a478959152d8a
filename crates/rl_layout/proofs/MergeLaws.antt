-- The runs of a state are right, and have all its keys.
use Rattle.std.proofs.Common.{◌≡◌, ℕ, Bool, true, false, cond, ◌&&◌, ◌||◌, nat_eq, ℤ, pos, ◌<ℤ◌, ◌≤ℤ◌, ◌+ℤ◌, List, [], ◌∷◌, map, Option, Some, refl, sym, ap, ◌∙◌, inl, inr, ◌⊎◌, true≢false}
use Rattle.std.specs.List.{AllByRecursion}
use Rattle.std.specs.Ordering.{int_eq}
use Rattle.std.specs.Option.{option_map}
use Rattle.std.proofs.lemmas.Bool.{and_parts, or_parts, or_from, eqb-true, false_from_ne_true}
use Rattle.std.proofs.lemmas.Int.{ints}
use Rattle.std.proofs.Common.{arith}
use Rattle.rl_types.specs.declared.numbers.Letter.{Letter}
use Rattle.rl_types.specs.declared.numbers.ActionId.{ActionId}
use Rattle.rl_fsm.specs.Reads.{asks_at}
use Rattle.rl_fsm.proofs.PieceLaws.{before_or_not, range_low, range_high, range_is}
use Rattle.rl_arrays.specs.TableMachine.{asked_bits, entry_number}
use Rattle.rl_minimal.specs.declared.state.MinEdge.{MinEdge}
use Rattle.rl_minimal.specs.Minimal.{reads_of, numbers}
use Rattle.rl_minimal.specs.Machine.{edge_for, go_of}
use Rattle.rl_minimal.specs.Sound.{AreReads}
use Rattle.rl_layout.specs.declared.runs.Run.{Run}
use Rattle.rl_layout.specs.Runs.{edges_of, same_actions, same_step, same_steps, continues, with_run, merged_on, runs_of, grouped}
use Rattle.rl_layout.specs.Cells.{edge_at, asks_of, first_asks}
use Rattle.rl_layout.proofs.EdgeLaws.{Outside, Chain}
use Rattle.rl_layout.proofs.GroupLaws.{range_of_run, in_run, IsRight, AreRight, held, grouped_right, grouped_covers}

-- ---- steps that are the same

pub same_numbers : (xs ys : List ActionId) → same_actions xs ys ≡ true → numbers xs ≡ numbers ys
same_numbers [] [] e = refl
same_numbers [] (y ∷ ys) e = absurd (true≢false (sym e))
same_numbers (x ∷ xs) [] e = absurd (true≢false (sym e))
same_numbers (x ∷ xs) (y ∷ ys) e = let p = and_parts (nat_eq x.0 y.0) (same_actions xs ys) e in λ i. eqb-true x.0 y.0 p.0 i ∷ same_numbers xs ys p.1 i

-- the same step: what it asks, its truths, and where it goes
record Same (e f : MinEdge) : Type 0 where
  asks : e.asks.0 ≡ f.asks.0
  truths : e.truths.0 ≡ f.truths.0
  go : go_of e ≡ go_of f

same_from : (e f : MinEdge) → same_step e f ≡ true → Same e f
same_from e f h =
    let p = and_parts (nat_eq e.asks.0 f.asks.0 && nat_eq e.truths.0 f.truths.0 && nat_eq e.target f.target) (same_actions e.list f.list) h in
    let q = and_parts (nat_eq e.asks.0 f.asks.0 && nat_eq e.truths.0 f.truths.0) (nat_eq e.target f.target) p.0 in
    let r = and_parts (nat_eq e.asks.0 f.asks.0) (nat_eq e.truths.0 f.truths.0) q.0 in
    record {
      asks = eqb-true e.asks.0 f.asks.0 r.0;
      truths = eqb-true e.truths.0 f.truths.0 r.1;
      go = λ i. record { target = eqb-true e.target f.target q.1 i; list = same_numbers e.list f.list p.1 i };
    }

same_asks : (es fs : List MinEdge) → same_steps es fs ≡ true → first_asks es ≡ first_asks fs
same_asks [] [] h = refl
same_asks [] (f ∷ fs) h = absurd (true≢false (sym h))
same_asks (e ∷ es) [] h = absurd (true≢false (sym h))
same_asks (e ∷ es) (f ∷ fs) h = (same_from e f (and_parts (same_step e f) (same_steps es fs) h).0).asks

picked : (b : Bool) (e f : MinEdge) (x y : Option MinEdge) → go_of e ≡ go_of f → option_map go_of x ≡ option_map go_of y → option_map go_of (cond b (Some e) x) ≡ option_map go_of (cond b (Some f) y)
picked true e f x y g h = ap (λ w. Some w) g
picked false e f x y g h = h

same_go : (asks j : ℕ) (es fs : List MinEdge) → same_steps es fs ≡ true → option_map go_of (edge_at asks j es) ≡ option_map go_of (edge_at asks j fs)
same_go asks j [] [] h = refl
same_go asks j [] (f ∷ fs) h = absurd (true≢false (sym h))
same_go asks j (e ∷ es) [] h = absurd (true≢false (sym h))
same_go asks j (e ∷ es) (f ∷ fs) h =
    let p = and_parts (same_step e f) (same_steps es fs) h in
    let s = same_from e f p.0 in
    (λ i. option_map go_of (cond (nat_eq (entry_number (asked_bits asks) (s.truths i)) j) (Some e) (edge_at asks j es)))
    ∙ picked (nat_eq (entry_number (asked_bits asks) f.truths.0) j) e f (edge_at asks j es) (edge_at asks j fs) s.go (same_go asks j es fs p.1)

-- ---- two runs that are one

-- the run r goes on through s
abbrev through : Run → Run → Run
through r s = record r { hi = s.hi }

adjoins : (r s : Run) → int_eq (r.hi +ℤ pos 1) s.lo ≡ true → (key : ℤ) → key <ℤ s.lo → key ≤ℤ r.hi
adjoins r s e key l = below r.hi s.lo key e l
  where
    below : (x y z : ℤ) → int_eq (x +ℤ pos 1) y ≡ true → z <ℤ y → z ≤ℤ x
    below x y z e l = let f : x +ℤ pos 1 ≡ y = same (x +ℤ pos 1) y e in omega (arith, ints)
      where
        same : (x y : ℤ) → int_eq x y ≡ true → x ≡ y
        same x y e = grind (arith, ints)

-- a key of both is one of the first or of the second
in_either : (r s : Run) → int_eq (r.hi +ℤ pos 1) s.lo ≡ true → (key : ℤ) → in_run key (through r s) ≡ true → (in_run key r ≡ true) ⊎ (in_run key s ≡ true)
in_either r s e key h = by (before_or_not key s.lo)
  where
    by : (key <ℤ s.lo) ⊎ (s.lo ≤ℤ key) → (in_run key r ≡ true) ⊎ (in_run key s ≡ true)
    by (inl l) = inl (range_is key (range_of_run r) (range_low key (range_of_run (through r s)) h) (adjoins r s e key l))
    by (inr g) = inr (range_is key (range_of_run s) g (range_high key (range_of_run (through r s)) h))

ends_apart : (r s : Run) → int_eq (r.hi +ℤ pos 1) s.lo ≡ true → r.hi <ℤ s.lo
ends_apart r s e = below r.hi s.lo e
  where
    same : (x y : ℤ) → int_eq x y ≡ true → x ≡ y
    same x y e = grind (arith, ints)

    below : (x y : ℤ) → int_eq (x +ℤ pos 1) y ≡ true → x <ℤ y
    below x y e = let f : x +ℤ pos 1 ≡ y = same (x +ℤ pos 1) y e in omega (arith, ints)

wider : (x y u v : ℤ) → x ≤ℤ y → y <ℤ u → u ≤ℤ v → x ≤ℤ v
wider x y u v p q s = omega (arith, ints)

joined_right : (edges : List MinEdge) (r s : Run) → IsRight edges r → IsRight edges s → continues edges r s ≡ true → IsRight edges (through r s)
joined_right edges r s a b e = record { ordered = wider r.lo r.hi s.lo s.hi a.ordered (ends_apart r s parts.0) b.ordered; small = a.small; asks = asks_right; step = step_right }
  where
    parts : (int_eq (r.hi +ℤ pos 1) s.lo ≡ true) × (same_steps (edges_of edges r) (edges_of edges s) ≡ true)
    parts = and_parts (int_eq (r.hi +ℤ pos 1) s.lo) (same_steps (edges_of edges r) (edges_of edges s)) e

    alike : asks_of edges r ≡ asks_of edges s
    alike = same_asks (edges_of edges r) (edges_of edges s) parts.1

    asks_right : (key : ℤ) → in_run key (through r s) ≡ true → asks_at key (map reads_of edges) ≡ asks_of edges r
    asks_right key h = by (in_either r s parts.0 key h)
      where
        by : (in_run key r ≡ true) ⊎ (in_run key s ≡ true) → asks_at key (map reads_of edges) ≡ asks_of edges r
        by (inl l) = a.asks key l
        by (inr g) = b.asks key g ∙ sym alike

    step_right : (l : Letter) → in_run l.key (through r s) ≡ true → option_map go_of (edge_for l edges) ≡ option_map go_of (edge_at (asks_of edges r) (entry_number (asked_bits (asks_of edges r)) l.truths) (edges_of edges r))
    step_right l h = by (in_either r s parts.0 l.key h)
      where
        by : (in_run l.key r ≡ true) ⊎ (in_run l.key s ≡ true) → option_map go_of (edge_for l edges) ≡ option_map go_of (edge_at (asks_of edges r) (entry_number (asked_bits (asks_of edges r)) l.truths) (edges_of edges r))
        by (inl p) = a.step l p
        by (inr g) = b.step l g
            ∙ sym (same_go (asks_of edges s) (entry_number (asked_bits (asks_of edges s)) l.truths) (edges_of edges r) (edges_of edges s) parts.1)
            ∙ sym (λ i. option_map go_of (edge_at (alike i) (entry_number (asked_bits (alike i)) l.truths) (edges_of edges r)))

-- ---- with one more run

run_right : (edges : List MinEdge) (s : Run) (runs : List Run) → IsRight edges s → AreRight edges runs → AreRight edges (with_run edges s runs)
run_right edges s [] b a = (b, tt)
run_right edges s (r ∷ []) b a = by (continues edges r s) refl
  where
    by : (t : Bool) → continues edges r s ≡ t → AreRight edges (cond t ((through r s) ∷ []) (r ∷ s ∷ []))
    by true e = (joined_right edges r s a.0 b e, tt)
    by false e = (a.0, (b, tt))
run_right edges s (r ∷ q ∷ runs) b a = (a.0, run_right edges s (q ∷ runs) b a.1)

not_in : (key : ℤ) (r t : Run) → (in_run key r ≡ true → in_run key t ≡ true) → in_run key t ≡ false → in_run key r ≡ false
not_in key r t f h = false_from_ne_true (in_run key r) (λ e. true≢false (sym (f e) ∙ h))

run_covers : (edges : List MinEdge) (key : ℤ) (s : Run) (runs : List Run) → IsRight edges s → AreRight edges runs → held key (with_run edges s runs) ≡ false → (in_run key s ≡ false) × (held key runs ≡ false)
run_covers edges key s [] b a h = ((or_parts (in_run key s) false h).0, refl)
run_covers edges key s (r ∷ []) b a h = by (continues edges r s) refl h
  where
    by : (t : Bool) → continues edges r s ≡ t → held key (cond t ((through r s) ∷ []) (r ∷ s ∷ [])) ≡ false → (in_run key s ≡ false) × (held key (r ∷ []) ≡ false)
    by true e h =
        let parts = and_parts (int_eq (r.hi +ℤ pos 1) s.lo) (same_steps (edges_of edges r) (edges_of edges s)) e in
        let out = (or_parts (in_run key (through r s)) false h).0 in
        let apart = ends_apart r s parts.0 in (
          not_in key s (through r s) (λ q. range_is key (range_of_run (through r s)) (low r.lo r.hi s.lo key a.0.ordered apart (range_low key (range_of_run s) q)) (range_high key (range_of_run s) q)) out,
          or_from (in_run key r) false (not_in key r (through r s) (λ q. range_is key (range_of_run (through r s)) (range_low key (range_of_run r) q) (high key r.hi s.lo s.hi (range_high key (range_of_run r) q) apart b.ordered)) out) refl,
        )
      where
        low : (x y u k : ℤ) → x ≤ℤ y → y <ℤ u → u ≤ℤ k → x ≤ℤ k
        low x y u k p q s = omega (arith, ints)

        high : (k y u v : ℤ) → k ≤ℤ y → y <ℤ u → u ≤ℤ v → k ≤ℤ v
        high k y u v p q s = omega (arith, ints)
    by false e h = let p = or_parts (in_run key r) (in_run key s || false) h in ((or_parts (in_run key s) false p.1).0, or_from (in_run key r) false p.0 refl)
run_covers edges key s (r ∷ q ∷ runs) b a h =
    let p = or_parts (in_run key r) (held key (with_run edges s (q ∷ runs))) h in
    let rest = run_covers edges key s (q ∷ runs) b a.1 p.1 in
    (rest.0, or_from (in_run key r) (held key (q ∷ runs)) p.0 rest.1)

-- ---- all runs

merged_right : (rest : List Run) (edges : List MinEdge) (runs : List Run) → AreRight edges runs → AreRight edges rest → AreRight edges (merged_on edges runs rest)
merged_right [] edges runs a b = a
merged_right (s ∷ rest) edges runs a b = merged_right rest edges (with_run edges s runs) (run_right edges s runs b.0 a) b.1

merged_covers : (rest : List Run) (edges : List MinEdge) (key : ℤ) (runs : List Run) → AreRight edges runs → AreRight edges rest → held key (merged_on edges runs rest) ≡ false → (held key runs ≡ false) × (held key rest ≡ false)
merged_covers [] edges key runs a b h = (h, refl)
merged_covers (s ∷ rest) edges key runs a b h =
    let p = merged_covers rest edges key (with_run edges s runs) (run_right edges s runs b.0 a) b.1 h in
    let q = run_covers edges key s runs b.0 a p.0 in
    (q.1, or_from (in_run key s) (held key rest) q.0 p.1)

pub runs_right : (edges : List MinEdge) → AllByRecursion AreReads edges → Chain edges → AreRight edges (runs_of edges)
runs_right edges a c = merged_right (grouped edges) edges [] tt (grouped_right edges a c)

pub runs_cover : (edges : List MinEdge) (key : ℤ) → AllByRecursion AreReads edges → Chain edges → held key (runs_of edges) ≡ false → Outside key edges
runs_cover edges key a c h = grouped_covers edges key (merged_covers (grouped edges) edges key [] tt (grouped_right edges a c) h).1
