use Rattle.std.proofs.Common.{◌≡◌, ◌≤◌, cond, drop, length}
use Rattle.rl_rewrite.specs.Steps.{are_copies, behind_uncopied}
use Rattle.rl_rewrite.proofs.repeats.behind_uncopied.Given as goal

abbrev pub invariant-loop-i : goal.invariant-loop-i
invariant-loop-i l = (l.i ≤ length l.repetitions)
    × (cond (are_copies (drop l.i l.repetitions)) l.rest (behind_uncopied (drop l.i l.repetitions)) ≡ behind_uncopied l.repetitions)
