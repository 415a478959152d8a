-- Where edges lead.
use Rattle.std.proofs.Common.{◌≡◌, ℕ, ◌<◌, true, false, cond, List, [], ◌∷◌, length, Some, None, refl, subst, inl, inr, slice_get}
use Rattle.rl_types.specs.declared.numbers.Letter.{Letter}
use Rattle.rl_sets.specs.Sets.{In}
use Rattle.rl_fsm.specs.Reads.{takes}
use Rattle.rl_fsm.proofs.PieceLaws.{All-In}
use Rattle.rl_minimal.specs.declared.state.MinState.{MinState}
use Rattle.rl_minimal.specs.declared.state.MinEdge.{MinEdge}
use Rattle.rl_minimal.specs.Minimal.{Minimal, reads_of}
use Rattle.rl_minimal.specs.Machine.{edge_for}
use Rattle.rl_minimal.specs.Sound.{IsEdge, IsMinimal}

some_is : {X : Type 0} (x y : X) → Some x ≡ Some y → x ≡ y
some_is x y e = cc

none_some : {X : Type 0} (y : X) → None ≡ Some y → ⊥
none_some y e = cc

-- the edge that takes a letter is one of the edges, and takes it
pub edge_from : (l : Letter) (es : List MinEdge) (e : MinEdge) → edge_for l es ≡ Some e → In e es × (takes l (reads_of e) ≡ true)
edge_from l [] e h = absurd (none_some e h)
edge_from l (f ∷ es) e h =
    (elim (takes l (reads_of f)) as (λ b. takes l (reads_of f) ≡ b → cond b (Some f) (edge_for l es) ≡ Some e → In e (f ∷ es) × (takes l (reads_of e) ≡ true)) [
      | true ↦ λ t q. let same = some_is f e q in (inl same, subst (λ w. takes l (reads_of w) ≡ true) same t)
      | false ↦ λ t q. let p = edge_from l es e q in (inr p.0, p.1)
    ]) refl h

-- it leads to a state
pub target_there : (m : Minimal) → IsMinimal m → (i : ℕ) (s : MinState) → slice_get m.states i ≡ Some s → (l : Letter) (e : MinEdge) → edge_for l s.edges ≡ Some e → e.target < length m.states
target_there m h i s at l e q = (All-In (IsEdge m.states s) s.edges e (h.states i s at).edges.each (edge_from l s.edges e q).0).target.there
