-- The ranges that tell what configurations do.
use Rattle.std.specs.Prelude.{ℕ, cond, List, [], ◌++◌, Option}
use Rattle.std.specs.List.{flat_map, list_any}
use Rattle.rl_types.specs.KeyRange.{Range}
use Rattle.rl_automata.specs.Auto.{next}
use Rattle.rl_fsm.specs.Graphs.{Graph, fsm_auto, ranges_at}
use Rattle.rl_ops.specs.Parts.{part_ranges}

abbrev pub pair_ranges : Graph → Graph → Option ℕ × Option ℕ → List Range
pair_ranges a b c = part_ranges a c.0 ++ part_ranges b c.1

-- those of the second machine's start, only where the first one's part is final
abbrev pub next_ranges : Graph → Graph → Option ℕ → List Range
next_ranges a b left = next (fsm_auto a) (fsm_auto b) (left, []) (ranges_at b b.start) []

abbrev pub chain_ranges : Graph → Graph → Option ℕ × List ℕ → List Range
chain_ranges a b c = part_ranges a c.0 ++ (flat_map (ranges_at b) c.1 ++ next_ranges a b c.0)

-- those of the start, only where a member is final
abbrev pub round_ranges : Graph → List ℕ → List Range
round_ranges a members = cond (list_any (fsm_auto a).final members) (ranges_at a a.start) []

abbrev pub rounds_ranges : Graph → List ℕ → List Range
rounds_ranges a members = flat_map (ranges_at a) members ++ round_ranges a members
