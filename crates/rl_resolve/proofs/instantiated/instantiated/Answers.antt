use Rattle.std.proofs.Common.{arith}
use Rattle.rl_resolve.specs.Instances.{has_in}
use Rattle.rl_resolve.proofs.InstanceLaws.{goes_on, at_end}
use Rattle.rl_resolve.proofs.instantiated.instantiated.Goals as goal

pub loop-step-preserved : goal.loop-step-preserved
loop-step-preserved c = record {
  read = λ x.
      goes_on c.args.steps.now c.loop-step.step-index c.step-item.result (omega arith) c.step-item.is x (has_in x c.loop-step.table) (has_in x c.read.new.table)
      (c.in_ok-read.ensures x) (c.loop-step.invariant.read x);
}

pub returns : goal.returns
returns c = λ x. at_end c.args.steps.now c.loop-step.step-index x (has_in x c.loop-step.table) (omega arith) (c.loop-step.invariant.read x)
