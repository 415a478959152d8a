-- The step and the end of the loop over the edges that are asked.
use Rattle.std.proofs.Common.{◌≡◌, ℕ, suc, ℤ, ◌+◌, ◌<◌, ◌≤◌, List, length, drop, get_or, bit_or, map, ap, ◌∙◌, sym, drop-cons, add-one}
use Rattle.std.proofs.Math.ListN.{drop_of_length-le}
use Rattle.rl_fsm.specs.declared.edge.Edge.{Edge}
use Rattle.rl_fsm.specs.Reads.{asks_at, own_asks}
use Rattle.rl_fsm.specs.Graphs.{reads_of}
use Rattle.rl_fsm.proofs.Bits.{or_or, or_none}

pub asks_more : (k : ℤ) (es : List Edge) (i : ℕ) (e : Edge) (acc own : ℕ) → i < length es → e ≡ get_or es i e → own ≡ own_asks k (reads_of e)
    → bit_or acc (asks_at k (map reads_of (drop i es))) ≡ bit_or (bit_or acc own) (asks_at k (map reads_of (drop (i + 1) es)))
asks_more k es i e acc own h j o =
    ap (λ w. bit_or acc (asks_at k (map reads_of w))) (drop-cons es i e h)
    ∙ ap (λ w. bit_or acc (bit_or w (asks_at k (map reads_of (drop (suc i) es))))) (ap (λ w. own_asks k (reads_of w)) (sym j) ∙ sym o)
    ∙ sym (or_or acc own (asks_at k (map reads_of (drop (suc i) es))))
    ∙ ap (λ w. bit_or (bit_or acc own) (asks_at k (map reads_of (drop w es)))) (sym (add-one i))

pub asks_all : (k : ℤ) (es : List Edge) (i acc : ℕ) → length es ≤ i → bit_or acc (asks_at k (map reads_of (drop i es))) ≡ acc
asks_all k es i acc h = ap (λ w. bit_or acc (asks_at k (map reads_of w))) (drop_of_length-le es h) ∙ or_none acc
