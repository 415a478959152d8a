use Rattle.std.proofs.Common.{◌≡◌, ◌≤◌, ◌^◌, arith, rules}
use Rattle.std.proofs.Math.Pow.{pow_mono}
use Rattle.std.proofs.lemmas.Int.{to_z-of_z}
use Rattle.rl_arrays.specs.Words.{natural}
use Rattle.rl_arrays.specs.Sizes.{conditions}
use Rattle.rl_tables.proofs.cells.are_known.Goals as goal

pub returns-then-conditions-ge63 : goal.returns-then-conditions-ge63
returns-then-conditions-ge63 c =
    let fits = c.ranges.asks in
    let value : c.count_of-asked.result ≡ natural c.args.asks = simp to_z-of_z at c.count_of-asked.ensures.value in
    let many : 2 ^ 63 ≤ 2 ^ conditions c.args.a.now = pow_mono {i = 63} {j = conditions c.args.a.now} (omega arith) in
    (λ t. omega (arith, c.count_of-asked.ensures.small), λ t. search rules)
