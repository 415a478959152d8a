use Rattle.std.proofs.Common.{◌≡◌, ◌+◌, ◌≤◌, true, drop}
use Rattle.rl_lexical.specs.declared.mode.Mode.TheVariants as m
use Rattle.rl_bytes.specs.Modes.{is_of_code, depth_of}
use Rattle.rl_cexec.specs.Code.{goal_len}
use Rattle.rl_cexec.proofs.statements.goal_len.Given as goal

abbrev pub invariant-loop-len : goal.invariant-loop-len
invariant-loop-len l = record {
  code : is_of_code l.mode ≡ true;
  depth : depth_of l.mode ≤ l.len;
  value : l.len + goal_len l.mode (drop l.len l.text) ≡ goal_len (m.Code 0) l.text;
}
