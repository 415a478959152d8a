use Rattle.std.proofs.Common.{◌≡◌, ◌∙◌, ◌++◌, ap, map, List, ℕ}
use Rattle.std.specs.Prelude.{codes}
use Rattle.std.specs.List.{AllByRecursion}
use Rattle.rl_arrays.specs.Section.{array_front, joined, quoted}
use Rattle.rl_cread.specs.Contents.{IsPrintedName}
use Rattle.rl_cread.proofs.Between.{line_result}
use Rattle.rl_cread.proofs.lines.names_in.Goals as goal

pub returns-in-Some : goal.returns-in-Some
returns-in-Some c =
    let front : c.as_slice.result.now ≡ array_front c.args.name.now c.args.array = c.as_slice.ensures.value ∙ c.in_ok-front.ensures in
    line_result (array_front c.args.name.now c.args.array) (codes " };") (λ ns. joined (map quoted ns)) (AllByRecursion IsPrintedName) c.args.line.now c.in-Some.text.now c.names.result (c.in-Some.ensures ∙ ap (λ (t : List ℕ). t ++ (c.in-Some.text.now ++ codes " };")) front) c.names.ensures
