use Rattle.rl_cexec.proofs.RowLaws.{character_is_read, call_pushes, end_leaves_run, goal_is_kept, goal_has_values, text_is_kept, names_are_replaced, entry_is_number, short_init, long_init}
use Rattle.rl_cexec.proofs.rows.texts_are_printed.Goals as goal

pub returns-clause-character_is_read : goal.returns-clause-character_is_read
returns-clause-character_is_read c = character_is_read

pub returns-clause-call_pushes : goal.returns-clause-call_pushes
returns-clause-call_pushes c = call_pushes

pub returns-clause-end_leaves_run : goal.returns-clause-end_leaves_run
returns-clause-end_leaves_run c = end_leaves_run

pub returns-clause-goal_is_kept : goal.returns-clause-goal_is_kept
returns-clause-goal_is_kept c = goal_is_kept

pub returns-clause-goal_has_values : goal.returns-clause-goal_has_values
returns-clause-goal_has_values c = goal_has_values

pub returns-clause-text_is_kept : goal.returns-clause-text_is_kept
returns-clause-text_is_kept c = text_is_kept

pub returns-clause-names_are_replaced : goal.returns-clause-names_are_replaced
returns-clause-names_are_replaced c = names_are_replaced

pub returns-clause-entry_is_number : goal.returns-clause-entry_is_number
returns-clause-entry_is_number c = entry_is_number

pub returns-clause-short_init : goal.returns-clause-short_init
returns-clause-short_init c = short_init

pub returns-clause-long_init : goal.returns-clause-long_init
returns-clause-long_init c = long_init
