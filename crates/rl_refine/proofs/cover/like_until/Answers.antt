use Rattle.std.proofs.Common.{◌≡◌, ℤ, ◌≤ℤ◌, true, sym, subst}
use Rattle.rl_types.specs.KeyRange.{in_range}
use Rattle.rl_sets.specs.Sets.{In}
use Rattle.rl_fsm.proofs.PieceLaws.{range_high}
use Rattle.rl_refine.specs.Covers.{HasLike}
use Rattle.rl_refine.proofs.CoverLaws.{In-item, like_to_end}
use Rattle.rl_refine.proofs.cover.like_until.Goals as goal

pub returns-then-is_like : goal.returns-then-is_like
returns-then-is_like c =
    let there : In c.f-item.result c.args.edges.now = In-item c.args.edges.now c.loop-f.f-index c.f-item.result c.loop-f-test.true c.f-item.is in
    let has : in_range c.args.key.0 c.f-item.result.range ≡ true = cc in
    subst (λ (z : ℤ). (c.args.key.0 ≤ℤ z) × ((k : ℤ) → c.args.key.0 ≤ℤ k → k ≤ℤ z → HasLike c.args.classes.now c.args.e.now c.args.edges.now k)) (sym c.last_key.ensures)
    (range_high c.args.key.0 c.f-item.result.range has, like_to_end c.args.classes.now c.args.e.now c.args.edges.now c.f-item.result c.args.key.0 there has (c.is_like.ensures.0 c.if-is_like.true))
