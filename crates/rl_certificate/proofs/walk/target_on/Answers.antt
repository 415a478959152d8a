use Rattle.std.proofs.Common.{sym, ap, ◌∙◌}
use Rattle.rl_minimal.specs.Machine.{edge_for}
use Rattle.rl_certificate.proofs.WalkLaws.{target_there}
use Rattle.rl_certificate.proofs.walk.target_on.Goals as goal

pub returns-in-Some-clause-there : goal.returns-in-Some-clause-there
returns-in-Some-clause-there c =
    target_there c.args.min.now c.states.ensures.minimal c.args.state c.state.result.now c.state.ensures c.args.letter c.in-Some.edge.now
    (ap (edge_for c.args.letter) (sym c.as_slice-edges.ensures) ∙ sym c.in-Some.ensures)
