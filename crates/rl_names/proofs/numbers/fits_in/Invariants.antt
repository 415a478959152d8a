use Rattle.std.proofs.Common.{◌≡◌, ◌≤◌, drop}
use Rattle.std.specs.Str.Parse.{digits_value, digits_value_after}
use Rattle.rl_names.proofs.numbers.fits_in.Given as goal

abbrev pub invariant-loop-b : goal.invariant-loop-b
invariant-loop-b l = record {
  value : digits_value_after l.radix l.value (drop l.b-index l.digits) ≡ digits_value l.radix l.digits;
  most : l.value ≤ 9223372036854775807;
}
