-- The edges of one configuration.
use Rattle.std.specs.Prelude.{◌≡◌, ℕ, zero, suc, ◌+◌, ◌<◌, ℤ, ◌≤ℤ◌, Bool, true, false, cond, ◌&&◌, ◌||◌, List, [], ◌∷◌, ◌++◌, Option, Some, map, nat_eq, bit_and}
use Rattle.std.specs.Option.{option_map}
use Rattle.std.specs.List.{find, flat_map, list_any}
use Rattle.rl_types.specs.declared.numbers.Letter.{Letter}
use Rattle.rl_types.specs.KeyRange.{Range}
use Rattle.rl_sets.specs.Sets.{In}
use Rattle.rl_automata.specs.declared.moves.Move.{Move}
use Rattle.rl_automata.specs.Auto.{Auto, on_part, quiet}
use Rattle.rl_fsm.specs.Reads.{Reads, takes, own_letter, asks_at, ascend}
use Rattle.rl_explore.specs.declared.found.Found.{Found}
use Rattle.rl_explore.specs.Ranges.{at}

-- the truths are among the conditions
abbrev pub is_within : ℕ → ℕ → Bool
is_within truths asks = nat_eq (bit_and truths asks) truths

module _ {S : Type 0} where
  abbrev pub found_reads : Found S → Reads
  found_reads f = record { range = f.range; asks = f.asks.0; truths = f.truths.0 }

  abbrev pub found_move : Found S → Move S
  found_move f = record { to = f.to; carry = f.carry }

  abbrev pub found_for : Letter → List (Found S) → Option (Found S)
  found_for l fs = find (λ f. takes l (found_reads f)) fs

  -- the edge is the step of its own letter
  pub record IsFound (A : Auto S) (c : S) (f : Found S) : Type 0 where
    pub step : A.step c (own_letter (found_reads f)) ≡ Some (found_move f)
    pub truths : bit_and f.truths.0 f.asks.0 ≡ f.truths.0
    pub asks : f.asks.0 < 256
    pub keys : f.range.lo ≤ℤ f.range.hi

  -- The edges say what the automaton does, and nothing is asked where nothing steps. They ascend.
  pub record IsRow (A : Auto S) (c : S) (fs : List (Found S)) : Type 0 where
    pub steps : (l : Letter) → option_map found_move (found_for l fs) ≡ A.step c l
    pub asks : (k : ℤ) → asks_at k (map found_reads fs) ≡ (quiet A).asked c k
    pub ascending : ascend (map found_reads fs) ≡ true
    pub each : (f : Found S) → In f fs → IsFound A c f

  -- ---- how they are made

  -- the edge for these truths, at keys that all step as the first one does
  abbrev pub edge_at : Auto S → S → Range → ℕ → List (Found S)
  edge_at A c r t =
      cond (is_within t (A.asked c r.lo))
      (on_part [] (λ (m : Move S). record { range = r; asks = record { 0 = A.asked c r.lo }; truths = record { 0 = t }; to = m.to; carry = m.carry } ∷ []) (A.step c (at r.lo t)))
      []

  unfoldable pub edges_below : Auto S → S → Range → ℕ → List (Found S)
  edges_below A c r zero = []
  edges_below A c r (suc n) = edges_below A c r n ++ edge_at A c r n

  -- the edges at the keys of a piece, by ascending truths
  abbrev pub edges_on : Auto S → S → Range → List (Found S)
  edges_on A c r = edges_below A c r (A.asked c r.lo + 1)

  abbrev pub row_edges : Auto S → S → List Range → List (Found S)
  row_edges A c pieces = flat_map (edges_on A c) pieces

  module _ (A : Auto S) (jams : S → Letter → Bool) (c : S) where
    abbrev pub jams_at : Range → ℕ → Bool
    jams_at r t = is_within t (A.asked c r.lo) && jams c (at r.lo t)

    unfoldable pub jams_below : Range → ℕ → Bool
    jams_below r zero = false
    jams_below r (suc n) = jams_below r n || jams_at r n

    -- whether there is a cycle at the keys of a piece
    abbrev pub jams_on : Range → Bool
    jams_on r = jams_below r (A.asked c r.lo + 1)

    abbrev pub row_jams : List Range → Bool
    row_jams pieces = list_any jams_on pieces
