use Rattle.std.proofs.Common.{◌≡◌, ◌+◌, ◌≤◌, ◌++◌, true, drop}
use Rattle.rl_lexical.specs.declared.mode.Mode.TheVariants as m
use Rattle.rl_code.specs.Sayings.{sayings_from}
use Rattle.rl_bytes.specs.Modes.{is_of_code, depth_of}
use Rattle.rl_statements.proofs.walk.said_behind.Given as goal

abbrev pub invariant-loop-at : goal.invariant-loop-at
invariant-loop-at l = record {
  code : is_of_code l.mode ≡ true;
  depth : depth_of l.mode ≤ l.at;
  value : l.found.items ++ sayings_from (l.at + 1) l.fresh l.mode (drop l.at l.text) ≡ sayings_from 1 true (m.Code 0) l.text;
}
