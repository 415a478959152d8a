use Rattle.rl_ops.specs.Live.{live_at}
use Rattle.rl_ops.proofs.PruneLaws.{minus_stands, minus_marks}
use Rattle.rl_ops.proofs.StandsLaws.{if_ok_to, on_ok_from}
use Rattle.rl_ops.proofs.prune.minus.Goals as goal

pub returns-clause-stands : goal.returns-clause-stands
returns-clause-stands c = if_ok_to _ _ c.pruned_pair.result (λ m p. minus_stands c.args.a.now c.args.b.now p.0 m (live_at p.1) p.3 p.4 p.2) c.pruned_pair.ensures.pruned

pub returns-clause-tests : goal.returns-clause-tests
returns-clause-tests c = on_ok_from _ _ c.pruned_pair.result (λ m p. minus_marks c.args.a.now c.args.b.now p.0 m (live_at p.1) p.3 p.4 p.2) c.pruned_pair.ensures.pruned
