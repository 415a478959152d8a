use Rattle.std.proofs.Common.{arith}
use Rattle.rl_names.specs.TableForms.{own_in, pointed}
use Rattle.rl_names.proofs.GroupLaws.{groups_go_on, groups_end}
use Rattle.rl_names.proofs.groups.groups_of.Goals as goal

pub loop-step-preserved : goal.loop-step-preserved
loop-step-preserved c = record {
  read = λ x.
      groups_go_on c.args.steps.now c.loop-step.step-index c.step-item.result (omega arith) c.step-item.is x (pointed (own_in x c.loop-step.groups)) (pointed (own_in x c.add.new.groups))
      (c.in_ok-add.ensures x) (c.loop-step.invariant.read x);
}

pub returns : goal.returns
returns c = λ x. groups_end c.args.steps.now c.loop-step.step-index x (pointed (own_in x c.loop-step.groups)) (omega arith) (c.loop-step.invariant.read x)
