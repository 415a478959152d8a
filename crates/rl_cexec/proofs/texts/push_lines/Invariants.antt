use Rattle.std.proofs.Common.{◌≡◌, ◌++◌, map, take}
use Rattle.std.specs.Prelude.{flat_map}
use Rattle.rl_cexec.specs.Texts.{line_text}
use Rattle.rl_cexec.specs.Seen.{seen}
use Rattle.rl_cexec.proofs.texts.push_lines.Given as goal

abbrev pub invariant-loop-line : goal.invariant-loop-line
invariant-loop-line l = l.text.items ≡ l.initial.text.items ++ flat_map (line_text l.spec l.a l.frame) (map seen (take l.line-index l.lines))
