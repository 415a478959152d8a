use Rattle.std.proofs.Common.{◌≡◌, ◌++◌, map, drop}
use Rattle.std.specs.Prelude.{not}
use Rattle.std.specs.List.{filter, flat_map}
use Rattle.rl_arrays.specs.Section.{is_uses, line_text}
use Rattle.rl_cdata.specs.Texts.{line_of}
use Rattle.rl_cdata.proofs.arrays.push_without_uses.Given as goal

-- what is written, and the lines of the arrays that are left
abbrev pub invariant-loop-array : goal.invariant-loop-array
invariant-loop-array l =
    l.text.items ++ flat_map line_text (map (line_of l.a) (filter (λ array. not (is_uses array)) (drop l.array-index l.arrays)))
    ≡ l.initial.text.items ++ flat_map line_text (map (line_of l.a) (filter (λ array. not (is_uses array)) l.arrays))
