use Rattle.std.proofs.Common.{◌≡◌, length, map}
use Rattle.rl_cread.specs.Lines.{SoFar}
use Rattle.rl_cread.proofs.lines.read_lines.Given as goal

abbrev pub invariant-loop-i : goal.invariant-loop-i
invariant-loop-i l = (length l.found.items ≡ l.i) × SoFar l.name l.forms (map (λ line. line.now) l.lines) l.found.items
