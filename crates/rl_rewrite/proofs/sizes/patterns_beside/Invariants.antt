use Rattle.std.proofs.Common.{◌≡◌, ◌≤◌, drop}
use Rattle.rl_rewrite.specs.Plain.{patterns_followed}
use Rattle.rl_rewrite.specs.Measures.{all_beside}
use Rattle.rl_rewrite.proofs.sizes.patterns_beside.Given as goal

abbrev pub invariant-loop-pattern : goal.invariant-loop-pattern
invariant-loop-pattern l =
    (l.s.nodes ≤ 1000000) × (l.s.depth ≤ 1000000)
    × (all_beside l.s (patterns_followed l.alphabet l.earlier (drop l.pattern-index l.patterns)) ≡ all_beside (record { nodes = 1; depth = 0 }) (patterns_followed l.alphabet l.earlier l.patterns))
