use Rattle.std.proofs.Common.{◌≡◌, ◌+◌, length}
use Rattle.rl_lexical.specs.Parts.{host_len}
use Rattle.rl_lex.proofs.lines.host_len.Given as goal

abbrev pub invariant-loop-rest : goal.invariant-loop-rest
invariant-loop-rest l = record {
  value : l.n + host_len l.is_line l.rest ≡ host_len l.fn.fresh l.text;
  count : l.n + length l.rest ≡ length l.text;
}

abbrev pub decreases-loop-rest : goal.decreases-loop-rest
decreases-loop-rest l = length l.rest
