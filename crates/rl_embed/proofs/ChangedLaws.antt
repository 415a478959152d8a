-- Laws of machines whose states say something else.
use Rattle.std.proofs.Common.{◌≡◌, ℕ, zero, suc, ◌+◌, ◌<◌, ◌≤◌, List, [], ◌∷◌, ◌++◌, map, length, drop, cond, Option, Some, None, option_map, slice_get, nat_lt, nat_eq, refl, ap, sym, ◌∙◌, subst, inl, inr, append_assoc, arith, All, IsTrue}
use Rattle.std.proofs.Math.ListN.{drop_of_length-le}
use Rattle.std.proofs.lemmas.List.{append-nil}
use Rattle.rl_sets.specs.Sets.{In}
use Rattle.rl_fsm.specs.declared.edge.Edge.{Edge}
use Rattle.rl_fsm.specs.declared.state.State.{State}
use Rattle.rl_fsm.specs.Reads.{Reads, ascend}
use Rattle.rl_fsm.specs.Graphs.{Graph, reads_of}
use Rattle.rl_fsm.specs.Sound.{IsEdge, AreEdges, IsSound}
use Rattle.rl_fsm.specs.Builds.{IsNumbered, known_after, known_from, targets_in, and_then}
use Rattle.rl_fsm.proofs.PieceLaws.{All-In, All-from_In}
use Rattle.rl_automata.proofs.Congruence.{none_in, some_in}
use Rattle.rl_embed.specs.Changed.{changed_from, changed}

-- ---- the list of states

pub drop_here : {X : Type 0} (xs : List X) (i : ℕ) (x : X) → slice_get xs i ≡ Some x → drop i xs ≡ x ∷ drop (suc i) xs
drop_here [] i x e = none_in x e
drop_here (y ∷ xs) zero x e = ap (λ w. w ∷ xs) (some_in y x e)
drop_here (y ∷ xs) (suc i) x e = drop_here xs i x e

module _ (f : ℕ → State → State) where
  -- one more state is changed
  pub changed_more : (made ss : List State) (i j : ℕ) (s t : State) → slice_get ss i ≡ Some s → j ≡ suc i → t ≡ f i s
      → (made ++ t ∷ []) ++ changed_from f j (drop j ss) ≡ made ++ changed_from f i (drop i ss)
  changed_more made ss i j s t e n u =
      append_assoc made (t ∷ []) (changed_from f j (drop j ss))
      ∙ (λ k. made ++ u k ∷ changed_from f ((n ∙ sym (one i)) k) (drop (n k) ss))
      ∙ ap (λ w. made ++ changed_from f i w) (sym (drop_here ss i s e))
    where
      one : (i : ℕ) → i + 1 ≡ suc i
      one i = omega arith

  -- all are
  pub changed_all : (made ss : List State) (i : ℕ) → length ss ≤ i → made ++ changed_from f i (drop i ss) ≡ made
  changed_all made ss i h = ap (λ w. made ++ changed_from f i w) (drop_of_length-le ss h) ∙ append-nil made

  pub length-changed : (n : ℕ) (ss : List State) → length (changed_from f n ss) ≡ length ss
  length-changed n [] = refl
  length-changed n (s ∷ ss) = ap suc (length-changed (n + 1) ss)

  pub get_changed : (n : ℕ) (ss : List State) (i : ℕ) → slice_get (changed_from f n ss) i ≡ option_map (f (n + i)) (slice_get ss i)
  get_changed n [] i = refl
  get_changed n (s ∷ ss) zero = ap (λ k. Some (f k s)) (none n)
    where
      none : (n : ℕ) → n ≡ n + 0
      none n = omega arith
  get_changed n (s ∷ ss) (suc i) = get_changed (n + 1) ss i ∙ ap (λ k. option_map (f k) (slice_get ss i)) (next n i)
    where
      next : (n i : ℕ) → (n + 1) + i ≡ n + suc i
      next n i = omega arith

  pub In-changed : (n : ℕ) (ss : List State) (t : State) → In t (changed_from f n ss) → (k : ℕ) × (s : State) × In s ss × (f k s ≡ t)
  In-changed n [] t i = absurd i
  In-changed n (s ∷ ss) t (inl e) = (n, s, inl refl, e)
  In-changed n (s ∷ ss) t (inr i) = let p = In-changed (n + 1) ss t i in (p.0, p.1, inr p.2, p.3)

-- ---- edges that read and lead as before

pub record KeepsEdges (f : ℕ → State → State) : Type 0 where
  pub reads : (n : ℕ) (s : State) → map reads_of (f n s).edges ≡ map reads_of s.edges
  pub leads : (n : ℕ) (s : State) → targets_in (f n s) ≡ targets_in s
  pub each : (n k : ℕ) (s : State) → All (IsEdge k) s.edges → All (IsEdge k) (f n s).edges

module _ (f : ℕ → State → State) (keeps : KeepsEdges f) where
  edges_sound : (n k : ℕ) (s : State) → AreEdges k s.edges → AreEdges k (f n s).edges
  edges_sound n k s h = record { each = keeps.each n k s h.each; ascending = subst (λ w. IsTrue (ascend w)) (sym (keeps.reads n s)) h.ascending }

  pub changed_sound : (m : Graph) → IsSound m → IsSound (changed f m)
  changed_sound m h =
      let n : length (changed_from f 0 m.states) ≡ length m.states = length-changed f 0 m.states in
      record {
        few = subst (λ w. w ≤ 2147483646) (sym n) h.few;
        start = subst (λ w. m.start < w) (sym n) h.start;
        edges = All-from_In (λ (s : State). AreEdges (length (changed_from f 0 m.states)) s.edges) (changed_from f 0 m.states) (λ t i.
            let p = In-changed f 0 m.states t i in
            subst (λ (w : State). AreEdges (length (changed_from f 0 m.states)) w.edges) p.3
            (subst (λ w. AreEdges w (f p.0 p.1).edges) (sym n) (edges_sound p.0 (length m.states) p.1 (All-In (λ (s : State). AreEdges (length m.states) s.edges) m.states p.1 h.edges p.2))));
      }

  known_same : (i k n : ℕ) (ss : List State) → known_from i k (changed_from f n ss) ≡ known_from i k ss
  known_same i k n [] = refl
  known_same i k n (s ∷ ss) =
      (λ x. cond (nat_lt i k) (and_then (known_after k (keeps.leads n s x)) (λ j. known_same (i + 1) j (n + 1) ss x)) None)

  pub changed_numbered : (m : Graph) → IsNumbered m → IsNumbered (changed f m)
  changed_numbered m h = record {
    start = h.start;
    known = known_same 0 1 0 m.states ∙ h.known ∙ ap Some (sym (length-changed f 0 m.states));
  }
