use Rattle.std.proofs.Common.{◌≡◌, drop, []}
use Rattle.rl_leaves.specs.Ranges.{put_spans}
use Rattle.rl_leaves.proofs.ranges.put_spans.Given as goal

abbrev pub invariant-loop-span : goal.invariant-loop-span
invariant-loop-span l = put_spans l.alphabet l.folds (drop l.span-index l.spans) l.ranges ≡ put_spans l.alphabet l.folds l.spans []
