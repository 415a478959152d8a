use Rattle.std.proofs.Common.{subst}
use Rattle.rl_names.specs.Answers.{Gives}
use Rattle.rl_names.specs.Expressions.{prioritized}
use Rattle.rl_names.specs.Scopes.{kept}
use Rattle.rl_names.proofs.puts.named.Goals as goal

pub returns : goal.returns
returns c =
    let n = c.args.priority.now in
    subst (λ z. Gives (prioritized (kept c.args.scope.now) c.args.transitions n.name.place z n.value) c.prioritized.result) c.as_slice.ensures c.prioritized.ensures
