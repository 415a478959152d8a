use Rattle.std.proofs.Common.{rules, arith, ◌≡◌, ◌∙◌, ◌+ℤ◌, ap, to_z, of_z, w64}
use Rattle.std.specs.Prelude.{Some}
use Rattle.std.proofs.lemmas.Int.{ints}
use Rattle.rl_leaves.specs.Ranges.{part, moved}
use Rattle.rl_leaves.proofs.ranges.moved_part.Goals as goal

pub returns-in-Some : goal.returns-in-Some
returns-in-Some c =
    let value : c.range_between.result ≡ record { lo = c.in-Some.part.lo +ℤ c.args.by; hi = c.in-Some.part.hi +ℤ c.args.by } = search rules in
    let first : to_z w64 (of_z w64 c.args.first) ≡ c.args.first = first_of (search rules, omega (arith, ints, c.ranges.first.sfits)) in
    let last : to_z w64 (of_z w64 c.args.last) ≡ c.args.last = first_of (search rules, omega (arith, ints, c.ranges.last.sfits)) in
    ap (λ z. Some z) value
    ∙ ap (moved c.args.by)
    (c.in-Some.ensures.value
    ∙ (ap (λ z. part z (to_z w64 (of_z w64 c.args.last)) c.args.range) first ∙ ap (λ z. part c.args.first z c.args.range) last))
