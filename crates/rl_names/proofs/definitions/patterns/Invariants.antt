use Rattle.std.proofs.Common.{◌≡◌, ◌∷◌, drop, Ok}
use Rattle.rl_names.specs.Answers.{and_then, each}
use Rattle.rl_names.specs.Drafts.{pattern_read}
use Rattle.rl_names.specs.Scopes.{kept}
use Rattle.rl_names.proofs.ResultLaws.{behind}
use Rattle.rl_names.proofs.definitions.patterns.Given as goal

abbrev pub invariant-loop-one : goal.invariant-loop-one
invariant-loop-one l = behind l.found (each (pattern_read (kept l.scope)) (drop l.one-index l.rest)) ≡ and_then (each (pattern_read (kept l.scope)) l.rest) (λ ps. Ok (l.fn.first ∷ ps))
