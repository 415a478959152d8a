use Rattle.std.proofs.Common.{◌≡◌, ◌+◌, ◌*◌, ◌≤◌, ◌++◌, drop}
use Rattle.rl_rewrite.specs.Plain.{patterns_followed}
use Rattle.rl_rewrite.specs.Sizes.{pattern_nodes}
use Rattle.rl_rewrite.specs.Walk.{no_patterns}
use Rattle.rl_rewrite.specs.Steps.{AreFew, patterns_of, patterns_on, made_places, pattern_places}
use Rattle.rl_rewrite.proofs.patterns.walk_patterns.Given as goal

abbrev pub invariant-loop-pattern : goal.invariant-loop-pattern
invariant-loop-pattern l =
    let qs = patterns_followed l.alphabet l.earlier l.patterns in
    let left = patterns_followed l.alphabet l.earlier (drop l.pattern-index l.patterns) in
    (l.counts.stamp + 3 * pattern_nodes left ≤ l.initial.counts.stamp + 3 * pattern_nodes qs)
    × AreFew l.counts
    × (patterns_on (patterns_of l.made) left l.counts ≡ patterns_on no_patterns qs l.initial.counts)
    × (made_places l.made ++ pattern_places (drop l.pattern-index l.patterns) ≡ pattern_places l.patterns)
