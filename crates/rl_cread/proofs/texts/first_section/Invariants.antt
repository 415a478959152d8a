use Rattle.std.proofs.Common.{ℕ, ◌<◌, map}
use Rattle.std.specs.Prelude.{IfSome, slice_get}
use Rattle.std.specs.Option.{option_copied}
use Rattle.rl_cread.specs.Sections.{IsFirst}
use Rattle.rl_cread.proofs.texts.first_section.Given as goal

abbrev pub invariant-loop-i : goal.invariant-loop-i
invariant-loop-i l = (k : ℕ) → k < l.i → IfSome (slice_get (map (λ line. line.now) l.lines) k) (λ line. IsFirst (option_copied l.machine) line → ⊥)
