use Rattle.std.proofs.Common.{◌∙◌}
use Rattle.rl_automata.specs.Auto.{first, part_moves}
use Rattle.rl_fsm.specs.Graphs.{fsm_auto}
use Rattle.rl_ops.specs.Settled.{Sides}
use Rattle.rl_ops.proofs.Keeping.{settled-map}
use Rattle.rl_ops.proofs.pair.PairOperator.step.Goals as goal

pub returns : goal.returns
returns c = (
  c.in_ok-step.ensures.step ∙ settled-map (λ (p : Sides). (first p.0, first p.1)) (part_moves (fsm_auto c.args.self.now.a.now) c.args.letter c.args.c.now.0) (part_moves (fsm_auto c.args.self.now.b.now) c.args.letter c.args.c.now.1),
  c.in_ok-step.ensures.cycle,
)
