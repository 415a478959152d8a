use Rattle.std.proofs.Common.{◌≡◌, drop}
use Rattle.std.specs.Str.Parse.{digits_value, digits_value_after}
use Rattle.rl_leaves.proofs.number.digits_value.Given as goal

abbrev pub invariant-loop-b : goal.invariant-loop-b
invariant-loop-b l = digits_value_after l.radix l.value (drop l.b-index l.digits) ≡ digits_value l.radix l.digits
