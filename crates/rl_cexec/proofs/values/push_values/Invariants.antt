use Rattle.std.proofs.Common.{◌≡◌, ◌≤◌, ◌++◌, true, drop}
use Rattle.rl_bytes.specs.Modes.{is_of_code, depth_of}
use Rattle.rl_cexec.specs.Code.{value, code_from, values_text}
use Rattle.rl_cexec.proofs.values.push_values.Given as goal

abbrev pub invariant-loop-at : goal.invariant-loop-at
invariant-loop-at l = record {
  code : is_of_code l.mode ≡ true;
  depth : depth_of l.mode ≤ l.at;
  value : l.text.items ++ code_from (value l.a l.frame) l.skip l.fresh l.mode (drop l.at l.from) ≡ l.initial.text.items ++ values_text l.a l.frame l.from;
}
