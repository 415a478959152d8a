use Rattle.std.proofs.Common.{◌≡◌, drop}
use Rattle.std.specs.List.{list_any}
use Rattle.rl_names.specs.Codes.{is_control}
use Rattle.rl_names.proofs.codes.has_controls.Given as goal

abbrev pub invariant-loop-one : goal.invariant-loop-one
invariant-loop-one l = list_any is_control (drop l.one-index l.said) ≡ list_any is_control l.said
