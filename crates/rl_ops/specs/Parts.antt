-- The ranges of a part, which may be absent.
use Rattle.std.specs.Prelude.{ℕ, List, [], Option}
use Rattle.rl_types.specs.KeyRange.{Range}
use Rattle.rl_automata.specs.Auto.{on_part}
use Rattle.rl_fsm.specs.Graphs.{Graph, ranges_at}

abbrev pub part_ranges : Graph → Option ℕ → List Range
part_ranges m part = on_part [] (ranges_at m) part
