use Rattle.std.proofs.Common.{◌≡◌, drop}
use Rattle.rl_certificate.specs.Rounds.{own_letters}
use Rattle.rl_certificate.specs.Steps.{with_letters}
use Rattle.rl_certificate.proofs.steps.put_letters.Given as goal

-- the letters of the edges that are left give what all give
abbrev pub invariant-loop-e : goal.invariant-loop-e
invariant-loop-e l = with_letters (own_letters (drop l.e-index l.edges)) l.letters.items ≡ with_letters (own_letters l.edges) l.initial.letters.items
