-- What the edges of a state say of a key: those that have it, and those that do not.
use Rattle.std.proofs.Common.{◌≡◌, ℕ, ◌<◌, true, false, cond, ◌&&◌, nat_eq, ℤ, ◌<ℤ◌, ◌≤ℤ◌, List, [], ◌∷◌, ◌++◌, map, Some, None, refl, sym, ◌∙◌, subst, bit_and, bit_or, inl, inr, arith}
use Rattle.std.specs.List.{AllByRecursion}
use Rattle.std.proofs.lemmas.Bool.{and_parts}
use Rattle.std.proofs.lemmas.Int.{ints}
use Rattle.rl_types.specs.declared.numbers.Letter.{Letter}
use Rattle.rl_types.specs.KeyRange.{Range, in_range}
use Rattle.rl_fsm.specs.Reads.{asks_at, is_before, ascend}
use Rattle.rl_fsm.proofs.Bits.{or_none}
use Rattle.rl_fsm.proofs.Ascending.{Precedes, precedes_from}
use Rattle.rl_arrays.specs.TableMachine.{asked_bits, entry_number}
use Rattle.rl_minimal.specs.declared.state.MinEdge.{MinEdge}
use Rattle.rl_minimal.specs.Minimal.{reads_of}
use Rattle.rl_minimal.specs.Machine.{edge_for}
use Rattle.rl_minimal.specs.Sound.{AreReads}
use Rattle.rl_layout.specs.Cells.{edge_at}
use Rattle.rl_layout.proofs.BitLaws.{same_entry, or_self}

-- no edge has the key
abbrev pub Outside : ℤ → List MinEdge → Type 0
Outside key es = AllByRecursion (λ (e : MinEdge). in_range key e.range ≡ false) es

-- an edge has the key, and asks these conditions, among which its truths are
pub record Has (key : ℤ) (asks : ℕ) (e : MinEdge) : Type 0 where
  pub holds : in_range key e.range ≡ true
  pub asks_is : e.asks.0 ≡ asks
  pub truths : bit_and e.truths.0 asks ≡ e.truths.0

-- ---- what is asked

pub asks_outside : (key : ℤ) (es ys : List MinEdge) → Outside key es → asks_at key (map reads_of (es ++ ys)) ≡ asks_at key (map reads_of ys)
asks_outside key [] ys o = refl
asks_outside key (e ∷ es) ys o = (λ i. bit_or (cond (o.0 i) e.asks.0 0) (asks_at key (map reads_of (es ++ ys)))) ∙ asks_outside key es ys o.1

pub asks_none : (key : ℤ) (es : List MinEdge) → Outside key es → asks_at key (map reads_of es) ≡ 0
asks_none key [] o = refl
asks_none key (e ∷ es) o = (λ i. bit_or (cond (o.0 i) e.asks.0 0) (asks_at key (map reads_of es))) ∙ asks_none key es o.1

pub asks_block : (key : ℤ) (asks : ℕ) (e : MinEdge) (es ys : List MinEdge) → AllByRecursion (Has key asks) (e ∷ es) → Outside key ys → asks_at key (map reads_of (e ∷ (es ++ ys))) ≡ asks
asks_block key asks e [] ys a o = (λ i. bit_or (cond (a.0.holds i) (a.0.asks_is i) 0) (asks_none key ys o i)) ∙ or_none asks
asks_block key asks e (f ∷ es) ys a o = (λ i. bit_or (cond (a.0.holds i) (a.0.asks_is i) 0) (asks_block key asks f es ys a.1 o i)) ∙ or_self asks

-- ---- which edge takes a letter

pub edge_outside : (l : Letter) (es ys : List MinEdge) → Outside l.key es → edge_for l (es ++ ys) ≡ edge_for l ys
edge_outside l [] ys o = refl
edge_outside l (e ∷ es) ys o = (λ i. cond (o.0 i && nat_eq (bit_and l.truths e.asks.0) e.truths.0) (Some e) (edge_for l (es ++ ys))) ∙ edge_outside l es ys o.1

pub edge_none : (l : Letter) (es : List MinEdge) → Outside l.key es → edge_for l es ≡ None
edge_none l [] o = refl
edge_none l (e ∷ es) o = (λ i. cond (o.0 i && nat_eq (bit_and l.truths e.asks.0) e.truths.0) (Some e) (edge_for l es)) ∙ edge_none l es o.1

pub edge_block : (l : Letter) (asks : ℕ) (es ys : List MinEdge) → asks < 256 → AllByRecursion (Has l.key asks) es → Outside l.key ys → edge_for l (es ++ ys) ≡ edge_at asks (entry_number (asked_bits asks) l.truths) es
edge_block l asks [] ys small a o = edge_none l ys o
edge_block l asks (e ∷ es) ys small a o = λ i. cond (same i) (Some e) (edge_block l asks es ys small a.1 o i)
  where
    same : (in_range l.key e.range && nat_eq (bit_and l.truths e.asks.0) e.truths.0) ≡ nat_eq (entry_number (asked_bits asks) e.truths.0) (entry_number (asked_bits asks) l.truths)
    same = (λ i. a.0.holds i && nat_eq (bit_and l.truths (a.0.asks_is i)) e.truths.0) ∙ sym (same_entry asks e.truths.0 l.truths small a.0.truths)

-- ---- the order of edges

-- each precedes the next
abbrev pub Chain : List MinEdge → Type 0
Chain [] = Unit {0}
Chain (e ∷ []) = Unit {0}
Chain (e ∷ f ∷ es) = Precedes (reads_of e) (reads_of f) × Chain (f ∷ es)

pub chain_from : (es : List MinEdge) → ascend (map reads_of es) ≡ true → Chain es
chain_from [] a = tt
chain_from (e ∷ []) a = tt
chain_from (e ∷ f ∷ es) a = let p = and_parts (is_before (reads_of e) (reads_of f)) (ascend (map reads_of (f ∷ es))) a in (precedes_from (reads_of e) (reads_of f) p.0, chain_from (f ∷ es) p.1)

-- all keys of the edges are above one, or below one
abbrev pub Above : ℤ → List MinEdge → Type 0
Above hi es = AllByRecursion (λ (e : MinEdge). hi <ℤ e.range.lo) es

abbrev pub Below : ℤ → List MinEdge → Type 0
Below lo es = AllByRecursion (λ (e : MinEdge). e.range.hi <ℤ lo) es

between : (a b c d : ℤ) → a <ℤ b → b ≤ℤ c → c <ℤ d → a <ℤ d
between a b c d x y z = omega (arith, ints)

pub all_above : (hi : ℤ) (e : MinEdge) (es : List MinEdge) → hi <ℤ e.range.lo → AllByRecursion AreReads (e ∷ es) → Chain (e ∷ es) → Above hi (e ∷ es)
all_above hi e [] l a c = (l, tt)
all_above hi e (f ∷ es) l a c = (l, all_above hi f es (next c.0) a.1 c.1)
  where
    next : Precedes (reads_of e) (reads_of f) → hi <ℤ f.range.lo
    next (inl m) = between hi e.range.lo e.range.hi f.range.lo l a.0.keys m
    next (inr p) = subst (λ (r : Range). hi <ℤ r.lo) p.0 l
