use Rattle.rl_classes.specs.Sets.{range_count}
use Rattle.rl_build.proofs.PatternLaws.{cells_none, cells_next, machines_next, ranges_next}
use Rattle.rl_build.proofs.patterns.side_of.Goals as goal

pub loop-pattern-init : goal.loop-pattern-init
loop-pattern-init c = (c.new-machines.ensures.items, c.in_ok-cells.ensures.few, cells_none c.args.alphabet c.in_ok-cells.cells c.in_ok-cells.ensures)

pub loop-pattern-preserved : goal.loop-pattern-preserved
loop-pattern-preserved c =
    let alphabet = c.args.alphabet in
    let bs = c.loop-pattern.yielded in
    let b = c.in-Some.pattern in
    let old = c.loop-pattern.cells in
    let new = c.in_ok-cells-2.cells in (
      machines_next alphabet bs b c.loop-pattern.machines.items c.push.new.items.items c.loop-pattern.invariant.0 c.in_ok-push.ensures,
      ranges_next alphabet bs b (range_count old.sets.items) (range_count new.sets.items) c.loop-pattern.invariant.1 c.in_ok-cells-2.ensures.few,
      cells_next alphabet bs b old new c.loop-pattern.invariant.2 (c.in_ok-cells-2.ensures.cells),
    )
