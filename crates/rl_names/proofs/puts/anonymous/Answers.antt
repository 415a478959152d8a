use Rattle.std.proofs.Common.{subst, ◌∙◌}
use Rattle.rl_names.specs.Answers.{Gives}
use Rattle.rl_names.specs.Expressions.{action_named}
use Rattle.rl_names.specs.Scopes.{kept}
use Rattle.rl_names.proofs.puts.anonymous.Goals as goal

pub returns : goal.returns
returns c =
    subst (λ z. Gives (action_named (kept c.args.scope.now) c.args.code.now.place z) c.action_named.result) (c.as_slice.ensures.value ∙ c.in_ok-name.ensures) c.action_named.ensures
