-- The places that a walk from the starts of all entries meets, in order.
use Rattle.std.specs.Prelude.{◌≡◌, ℕ, ◌≤◌, Bool, cond, not, List, [], ◌++◌, map, Some, length}
use Rattle.std.specs.List.{filter, flat_map, range_with_len}
use Rattle.rl_sets.specs.Sets.{In}
use Rattle.rl_fsm.specs.declared.root.EntryFsm.{EntryFsm}
use Rattle.rl_fsm.specs.declared.edge.Edge.{Edge}
use Rattle.rl_fsm.specs.declared.root.EntryFsm.TheVariants.{Scanner}
use Rattle.rl_fsm.specs.Graphs.{edges_at}
use Rattle.rl_fsm.specs.Roots.{states_in, entry_at, graph_at}
use Rattle.rl_fsm.specs.Scanned.{Scanned, IsScanned}
use Rattle.rl_fsm.specs.Sound.{IsSound}
use Rattle.rl_model.specs.Parts.{final_in}
use Rattle.rl_root.specs.Roots.{RootState, part_at, IsBuilt}
use Rattle.rl_reach.specs.declared.place.Place.{Place}
use Rattle.rl_reach.specs.Places.{with_places}

module _ (entries : List EntryFsm) where
  -- the start of an entry
  abbrev pub start_of : ℕ → Place
  start_of e = record { entry = e; state = (graph_at entries e).start }

  -- those of all entries, in text order
  abbrev pub starts_of : List Place
  starts_of = map start_of (range_with_len 1 (length entries))

  -- where the edge of a state of this entry leads
  abbrev pub target_of : ℕ → Edge → Place
  target_of entry e = record { entry = entry; state = e.target }

  -- where the edges of a place lead, by ascending key and then truths
  abbrev pub targets_of : Place → List Place
  targets_of p = map (target_of p.entry) (edges_at (graph_at entries p.entry) p.state)

  -- in a scanner the start alone is final
  abbrev pub is_final : Place → Bool
  is_final p = final_in (part_at entries p.entry) p.state

  -- the same as a state of the machine of all entries
  abbrev pub state_of : Place → RootState
  state_of p = Some (p.entry, p.state)

  -- the machine of the entry is sound, and what a scanner has is a machine with its token lists
  pub record IsSoundAt (e : ℕ) : Type 0 where
    pub machine : IsSound (graph_at entries e)
    pub scanner : (s : Scanned) → entry_at entries e ≡ Some (Scanner s) → IsScanned s

  -- each entry's machine is sound, and together they have few states
  pub record AreSound : Type 0 where
    pub each : (e : ℕ) → 1 ≤ e → e ≤ length entries → IsSoundAt e
    pub few : states_in entries ≤ 2147483646

  -- as far as a walk has come: it has seen where these places lead
  pub record IsWalk (seen met : List Place) : Type 0 where
    pub walked : met ≡ with_places [] (starts_of ++ flat_map targets_of seen)
    pub reached : (p : Place) → In p met → IsBuilt entries (state_of p)

  -- whether it is final, or whether it is not
  abbrev pub is_in_half : Bool → Place → Bool
  is_in_half fin p = cond fin (is_final p) (not (is_final p))

  -- those that are not final, and then those that are
  abbrev pub plain_first : List Place → List Place
  plain_first met = filter (λ p. not (is_final p)) met ++ filter is_final met
