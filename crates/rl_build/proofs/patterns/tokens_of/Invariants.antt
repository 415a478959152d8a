use Rattle.std.proofs.Common.{◌≡◌, map, take}
use Rattle.rl_model.specs.declared.spec.Pattern.{Pattern}
use Rattle.rl_build.proofs.patterns.tokens_of.Given as goal

abbrev pub invariant-loop-pattern : goal.invariant-loop-pattern
invariant-loop-pattern l = l.tokens.items ≡ map (λ (p : Pattern). p.token) (take l.pattern-index l.patterns)
