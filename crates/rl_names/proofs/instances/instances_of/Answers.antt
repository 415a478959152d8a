use Rattle.std.proofs.Common.{arith}
use Rattle.rl_names.specs.TableForms.{has_in}
use Rattle.rl_names.proofs.EntryLaws.{entries_go_on, entries_end}
use Rattle.rl_names.proofs.instances.instances_of.Goals as goal

pub loop-step-preserved : goal.loop-step-preserved
loop-step-preserved c = λ m n.
    entries_go_on c.args.steps.now c.loop-step.step-index c.step-item.result m n (has_in m c.loop-step.instances n) (has_in m c.behind.new.instances n) (omega arith) c.step-item.is
    (c.in_ok-behind.ensures m n) (c.loop-step.invariant m n)

pub returns : goal.returns
returns c = λ m n. entries_end c.args.steps.now c.loop-step.step-index m n (has_in m c.loop-step.instances n) (omega arith) (c.loop-step.invariant m n)
