use Rattle.std.proofs.Common.{◌≡◌, ◌++◌, sym}
use Rattle.std.proofs.lemmas.List.{take-append-drop}
use Rattle.rl_classes.proofs.Apart.{both_apart}
use Rattle.rl_classes.proofs.partition.+separated.Goals as goal

pub returns-in_ok-numbers-in_default : goal.returns-in_ok-numbers-in_default
returns-in_ok-numbers-in_default t c =
    let whole : c.args.sets.now ≡ c.split_at.result.0.now ++ c.split_at.result.1.now = rw (c.split_at.ensures.front, c.split_at.ensures.back) (sym (take-append-drop _ c.args.sets.now)) in
    both_apart _ _ _ _ _ _ _ c.in_ok-left-in_default.ensures c.in_ok-right-in_default.ensures c.in_ok-pairs-in_default.ensures.pairs c.in_ok-numbers-in_default.ensures whole
