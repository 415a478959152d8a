use Rattle.std.proofs.Common.{◌≡◌, ◌≤◌, ◌++◌, true, drop}
use Rattle.rl_lexical.specs.declared.mode.Mode.TheVariants as m
use Rattle.rl_bytes.specs.Modes.{is_of_code, depth_of}
use Rattle.rl_cexec.specs.Code.{statement_or_value, code_from}
use Rattle.rl_cexec.proofs.statements.push_code.Given as goal

abbrev pub invariant-loop-at : goal.invariant-loop-at
invariant-loop-at l = record {
  code : is_of_code l.mode ≡ true;
  depth : depth_of l.mode ≤ l.at;
  value : l.text.items ++ code_from (statement_or_value l.a l.frame l.at_end) l.skip l.fresh l.mode (drop l.at l.from)
      ≡ l.initial.text.items ++ code_from (statement_or_value l.a l.frame l.at_end) 0 true (m.Code 0) l.from;
}
