use Rattle.std.proofs.Common.{length}
use Rattle.rl_form.proofs.differ.+do_conditions_differ.Given as goal

abbrev pub decreases-do_conditions_differ : goal.decreases-do_conditions_differ
decreases-do_conditions_differ l = length l.actions.now
