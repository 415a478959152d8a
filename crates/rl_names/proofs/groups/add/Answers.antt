use Rattle.rl_names.specs.TableForms.{own_in}
use Rattle.rl_names.proofs.GroupLaws.{added}
use Rattle.rl_names.proofs.groups.add.Goals as goal

pub returns : goal.returns
returns c =
    added (λ x. own_in x c.args.groups.now) (λ x. own_in x c.take_own.new.groups) (λ x. own_in x c.set_own.new.groups) c.in_ok-own.own c.push.new.list c.bytes-machine.result.now c.args.step
    c.bytes-machine.ensures c.in_ok-own.ensures.0 c.in_ok-own.ensures.1 c.in_ok-push.ensures c.in_ok-set_own.ensures
