use Rattle.std.proofs.Common.{◌≡◌, ◌≤◌, true, drop}
use Rattle.rl_lexical.specs.declared.mode.Mode.TheVariants as m
use Rattle.rl_lexical.specs.Modes.{mode_after}
use Rattle.rl_bytes.specs.Modes.{is_of_code, depth_of}
use Rattle.rl_statements.proofs.block.mode_after.Given as goal

abbrev pub invariant-loop-at : goal.invariant-loop-at
invariant-loop-at l = record {
  code : is_of_code l.mode ≡ true;
  depth : depth_of l.mode ≤ l.at;
  value : mode_after l.mode (drop l.at l.text) ≡ mode_after (m.Code 0) l.text;
}
