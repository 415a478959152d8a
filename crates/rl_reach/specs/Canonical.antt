-- When a machine has exactly the states that the entries reach, under their canonical numbers.
use Rattle.std.specs.Prelude.{◌≡◌, ℕ, suc, ◌<◌, Bool, not, List, ◌++◌, map, length, nat_le}
use Rattle.std.specs.List.{filter, flat_map, range_with_len}
use Rattle.rl_fsm.specs.declared.root.EntryFsm.{EntryFsm}
use Rattle.rl_run.specs.Twin.{IsTwin}
use Rattle.rl_run.specs.Classes.{InClass, AreAlike}
use Rattle.rl_run.specs.Numbers.{firsts}
use Rattle.rl_model.specs.Parts.{Context}
use Rattle.rl_minimal.specs.declared.state.MinEdge.{MinEdge}
use Rattle.rl_minimal.specs.Minimal.{Minimal}
use Rattle.rl_minimal.specs.Machine.{edges_at, min_machine}
use Rattle.rl_root.specs.Roots.{RootState, root_machine, IsBuilt}

-- where the edges of a state lead, by ascending key and then truths
abbrev pub targets_at : Minimal → ℕ → List ℕ
targets_at m i = map (λ (e : MinEdge). e.target) (edges_at m i)

abbrev pub is_final : Minimal → ℕ → Bool
is_final m i = nat_le m.first_final i

-- `order` has the states but Error as a breadth-first walk meets them: from the entries in text order, by ascending key
-- and then truths. Their numbers count from 1 in this order, all that are not final before all that are.
pub record AreCanonical (m : Minimal) (order : List ℕ) : Type 0 where
  pub met : order ≡ firsts (m.entries ++ flat_map (targets_at m) order)
  pub counted : filter (λ i. not (is_final m i)) order ++ filter (is_final m) order ≡ range_with_len 1 (length order)
  pub whole : length m.states ≡ suc (length order)

-- Each state that the entries reach has a number, its class, and shows what the state of that number shows. Each number is
-- one's.
pub record IsMachineOf (entries : List EntryFsm) (m : Minimal) : Type 0 where
  pub class : RootState → ℕ
  pub twin : (context : Context) → IsTwin (root_machine entries context) (min_machine m context) (λ a. a) (InClass (root_machine entries context) class (IsBuilt entries))
  pub used : (i : ℕ) → i < length m.states → (q : RootState) × IsBuilt entries q × (class q ≡ i)
  pub starts : length m.entries ≡ length entries
  pub order : List ℕ
  pub canonical : AreCanonical m order

module _ (entries : List EntryFsm) (m : Minimal) (is : IsMachineOf entries m) where
  -- no two states have the same number
  abbrev pub IsUnmerged : Type 0
  IsUnmerged = (q p : RootState) → IsBuilt entries q → IsBuilt entries p → is.class q ≡ is.class p → q ≡ p

  -- two states have the same number exactly where they are alike
  pub record IsLeast (context : Context) : Type 0 where
    pub sound : (q p : RootState) → IsBuilt entries q → IsBuilt entries p → is.class q ≡ is.class p → AreAlike (root_machine entries context) q p
    pub complete : (q p : RootState) → IsBuilt entries q → IsBuilt entries p → AreAlike (root_machine entries context) q p → is.class q ≡ is.class p
