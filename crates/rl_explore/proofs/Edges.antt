-- Edges of a piece, one set of truths after another.
use Rattle.std.proofs.Common.{◌≡◌, ℕ, ◌+◌, Bool, true, false, cond, ◌&&◌, ◌||◌, [], ◌∷◌, ◌++◌, Option, refl, ap, sym, ◌∙◌, add-one}
use Rattle.rl_types.specs.declared.numbers.Letter.{Letter}
use Rattle.rl_types.specs.KeyRange.{Range}
use Rattle.rl_automata.specs.declared.moves.Move.{Move}
use Rattle.rl_automata.specs.Auto.{Auto, on_part}
use Rattle.rl_explore.specs.Ranges.{at}
use Rattle.rl_explore.specs.Rows.{is_within, edge_at, edges_below, jams_at, jams_below}

module _ {S : Type 0} (A : Auto S) (c : S) (r : Range) where
  pub edges_none : edges_below A c r 0 ≡ []
  unfolding edges_below
  edges_none = refl

  pub edges_more : (n : ℕ) → edges_below A c r (n + 1) ≡ edges_below A c r n ++ edge_at A c r n
  unfolding edges_below
  edges_more n = ap (edges_below A c r) (add-one n)

  -- no edge for truths that are not asked
  pub edge_unasked : (t : ℕ) → is_within t (A.asked c r.lo) ≡ false → edge_at A c r t ≡ []
  edge_unasked t e = ap (λ b. cond b (on_part [] (λ (m : Move S). record { range = r; asks = record { 0 = A.asked c r.lo }; truths = record { 0 = t }; to = m.to; carry = m.carry } ∷ []) (A.step c (at r.lo t))) []) e

  pub edge_asked : (t : ℕ) (o : Option (Move S)) → is_within t (A.asked c r.lo) ≡ true → o ≡ A.step c (at r.lo t)
      → edge_at A c r t ≡ on_part [] (λ (m : Move S). record { range = r; asks = record { 0 = A.asked c r.lo }; truths = record { 0 = t }; to = m.to; carry = m.carry } ∷ []) o
  edge_asked t o e f =
      ap (λ b. cond b (on_part [] (λ (m : Move S). record { range = r; asks = record { 0 = A.asked c r.lo }; truths = record { 0 = t }; to = m.to; carry = m.carry } ∷ []) (A.step c (at r.lo t))) []) e
      ∙ ap (on_part [] (λ (m : Move S). record { range = r; asks = record { 0 = A.asked c r.lo }; truths = record { 0 = t }; to = m.to; carry = m.carry } ∷ [])) (sym f)

  module _ (jams : S → Letter → Bool) where
    pub jams_none : jams_below A jams c r 0 ≡ false
    unfolding jams_below
    jams_none = refl

    pub jams_more : (n : ℕ) → jams_below A jams c r (n + 1) ≡ (jams_below A jams c r n || jams_at A jams c r n)
    unfolding jams_below
    jams_more n = ap (jams_below A jams c r) (add-one n)

    pub jam_unasked : (t : ℕ) → is_within t (A.asked c r.lo) ≡ false → false ≡ jams_at A jams c r t
    jam_unasked t e = ap (λ b. b && jams c (at r.lo t)) (sym e)

    pub jam_asked : (t : ℕ) (b : Bool) → is_within t (A.asked c r.lo) ≡ true → b ≡ jams c (at r.lo t) → b ≡ jams_at A jams c r t
    jam_asked t b e f = f ∙ ap (λ w. w && jams c (at r.lo t)) (sym e)
