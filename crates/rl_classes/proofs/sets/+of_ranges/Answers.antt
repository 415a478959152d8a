use Rattle.std.proofs.Common.{◌≡◌, ◌++◌, ◌/◌, length, take, drop, sym, rules}
use Rattle.std.proofs.lemmas.List.{take-append-drop}
use Rattle.rl_classes.proofs.SetLaws.{both_tell}
use Rattle.rl_classes.proofs.sets.+of_ranges.Goals as goal

pub returns-in_ok-whole-in_default : goal.returns-in_ok-whole-in_default
returns-in_ok-whole-in_default t c =
    let whole : c.args.ranges.now ≡ c.split_at.result.0.now ++ c.split_at.result.1.now = rw (c.split_at.ensures.front, c.split_at.ensures.back) (sym (take-append-drop _ c.args.ranges.now)) in
    both_tell _ _ _ _ _ _ _ c.in_ok-left-in_default.ensures c.in_ok-right-in_default.ensures c.in_ok-pairs-in_default.ensures.pairs c.in_ok-whole-in_default.ensures.first c.in_ok-whole-in_default.ensures.later whole
