use Rattle.std.proofs.Common.{◌≤◌, ◌∙◌, ap, map, sym, subst, arith, length}
use Rattle.rl_min.specs.Numbering.{listed, number_in, ArePicked}
use Rattle.rl_min.proofs.NumberingLaws.{few_listed}
use Rattle.rl_min.proofs.numbering.numbered.Goals as goal

pub numbers_of-requires : goal.numbers_of-requires
numbers_of-requires c =
    let classes = c.args.classes.now in
    let n : length (listed classes) ≤ length classes = few_listed classes in
    let most : length classes ≤ 2147483647 = c.requires in
    let all : length (listed classes) ≤ 2147483647 = omega arith in
    subst (λ k. length k ≤ 2147483647) (sym c.in_ok-met.ensures.classes) all
