use Rattle.std.proofs.Common.{false, refl, rules}
use Rattle.std.specs.Prelude.{IsTrue}
use Rattle.rl_tables.proofs.counts.is_quiet.Goals as goal

pub returns-then-has_kind : goal.returns-then-has_kind
returns-then-has_kind c = (λ t h. c.is_in_no_step.ensures.0 t, λ f. c.is_in_no_step.ensures.1 (f (c.if-has_kind.ensures.0 refl)))

pub returns-else-has_kind : goal.returns-else-has_kind
returns-else-has_kind c = (λ t h. (let bad : IsTrue false = c.if-has_kind.ensures.1 h in absurd cc), λ f. search rules)
