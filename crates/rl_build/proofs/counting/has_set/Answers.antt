use Rattle.std.proofs.Common.{◌∙◌, sym, subst, List}
use Rattle.rl_types.specs.KeyRange.{Range}
use Rattle.rl_sets.specs.Sets.{In}
use Rattle.rl_build.proofs.CellLaws.{item_in}
use Rattle.rl_build.proofs.counting.has_set.Goals as goal

pub returns-then-is_same : goal.returns-then-is_same
returns-then-is_same c = λ t. subst (λ (w : List Range). In w c.args.sets.now) (sym c.as_slice.ensures ∙ c.if-is_same.ensures t) (item_in c.args.sets.now c.loop-s.s-index c.s-item.result c.loop-s-test.true c.s-item.is)
