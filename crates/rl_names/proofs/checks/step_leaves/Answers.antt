use Rattle.std.proofs.Common.{◌∙◌}
use Rattle.rl_names.specs.TableForms.{has_in}
use Rattle.rl_names.proofs.LeafLaws.{told_of_step}
use Rattle.rl_names.proofs.checks.step_leaves.Goals as goal

pub returns : goal.returns
returns c =
    told_of_step c.args.steps.now c.args.step.now c.bytes-machine.result.now c.alphabet_in-alphabet.result (has_in c.bytes-machine.result.now c.args.instances.now) c.statement_leaves.result
    c.bytes-machine.ensures (c.alphabet_in-alphabet.ensures ∙ c.requires.alphabets c.bytes-machine.result.now) (c.requires.instances c.bytes-machine.result.now) c.statement_leaves.ensures
