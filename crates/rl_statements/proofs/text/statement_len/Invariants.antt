use Rattle.std.proofs.Common.{◌≡◌, ◌+◌, ◌≤◌, true, drop}
use Rattle.rl_lexical.specs.declared.mode.Mode.TheVariants as m
use Rattle.rl_statements.specs.Lengths.{statement_len}
use Rattle.rl_bytes.specs.Modes.{is_of_code, depth_of}
use Rattle.rl_statements.proofs.text.statement_len.Given as goal

abbrev pub invariant-loop-len : goal.invariant-loop-len
invariant-loop-len l = record {
  code : is_of_code l.mode ≡ true;
  depth : depth_of l.mode ≤ l.depth + l.len;
  value : statement_len l.depth l.len l.mode (drop l.len l.text) ≡ statement_len l.depth 0 (m.Code l.depth) l.text;
}
