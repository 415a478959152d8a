use Rattle.std.proofs.Common.{◌≡◌, ◌++◌, length}
use Rattle.std.specs.Prelude.{flat_map}
use Rattle.std.specs.List.{zip}
use Rattle.rl_cexec.specs.Texts.{condition_named}
use Rattle.rl_cexec.proofs.conditions.push_each.Given as goal

-- what is written, and the lines of the conditions that are left
abbrev pub invariant-loop-bit : goal.invariant-loop-bit
invariant-loop-bit l =
    l.text.items ++ flat_map (condition_named l.spec l.a l.frame) (zip l.bits_left l.names_left)
    ≡ l.initial.text.items ++ flat_map (condition_named l.spec l.a l.frame) (zip l.bits l.names)

abbrev pub decreases-loop-bit : goal.decreases-loop-bit
decreases-loop-bit l = length l.bits_left
