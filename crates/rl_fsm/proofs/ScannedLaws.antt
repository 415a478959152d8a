-- Whether an edge leads to the start, as far as states are looked at.
use Rattle.std.proofs.Common.{◌≡◌, ℕ, ◌<◌, true, false, length, refl, sym, ◌∙◌, subst, true≢false}
use Rattle.std.specs.Prelude.{◌↔◌, IsTrue}
use Rattle.rl_fsm.specs.Graphs.{Graph, edges_at}
use Rattle.rl_fsm.specs.Scanned.{leads_to, IsLeftForGood}

-- one of them leads to it
pub returned : (m : Graph) (i : ℕ) → i < length m.states → leads_to m.start (edges_at m i) ≡ true → IsTrue false ↔ IsLeftForGood m
returned m i lt e = ((λ h. absurd (true≢false (sym h))), (λ h. absurd (true≢false (sym e ∙ h i lt))))

-- none of them does
pub left : (m : Graph) (k : ℕ) → length m.states ≡ k → ((i : ℕ) → i < k → leads_to m.start (edges_at m i) ≡ false) → IsTrue true ↔ IsLeftForGood m
left m k e h = ((λ t i lt. h i (subst (λ n. i < n) e lt)), (λ h. refl))
