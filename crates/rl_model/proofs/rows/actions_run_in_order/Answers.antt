use Rattle.rl_model.proofs.ActionRows.{leaves_before_entering, empty_word_is_left, new_round_last, enters_first, guard_ends, guard_is_last}
use Rattle.rl_model.proofs.rows.actions_run_in_order.Goals as goal

pub returns-clause-leaves_before_entering : goal.returns-clause-leaves_before_entering
returns-clause-leaves_before_entering c = leaves_before_entering

pub returns-clause-empty_word_is_left : goal.returns-clause-empty_word_is_left
returns-clause-empty_word_is_left c = empty_word_is_left

pub returns-clause-new_round_last : goal.returns-clause-new_round_last
returns-clause-new_round_last c = new_round_last

pub returns-clause-enters_first : goal.returns-clause-enters_first
returns-clause-enters_first c = enters_first

pub returns-clause-guard_ends : goal.returns-clause-guard_ends
returns-clause-guard_ends c = guard_ends

pub returns-clause-guard_is_last : goal.returns-clause-guard_is_last
returns-clause-guard_is_last c = guard_is_last
