use Rattle.rl_tables.proofs.SmallArrays.{one_is_valid, no_such_key, no_such_condition, no_such_state, no_list_begins, too_few_lists, no_such_action, final_behind_all, no_such_version, uses_in_version_one, no_such_cell}
use Rattle.rl_tables.proofs.rows.arrays_are_checked.Goals as goal

pub returns-clause-valid : goal.returns-clause-valid
returns-clause-valid c = one_is_valid

pub returns-clause-key : goal.returns-clause-key
returns-clause-key c = no_such_key

pub returns-clause-condition : goal.returns-clause-condition
returns-clause-condition c = no_such_condition

pub returns-clause-state : goal.returns-clause-state
returns-clause-state c = no_such_state

pub returns-clause-list : goal.returns-clause-list
returns-clause-list c = no_list_begins

pub returns-clause-short : goal.returns-clause-short
returns-clause-short c = too_few_lists

pub returns-clause-action : goal.returns-clause-action
returns-clause-action c = no_such_action

pub returns-clause-first_final : goal.returns-clause-first_final
returns-clause-first_final c = final_behind_all

pub returns-clause-version : goal.returns-clause-version
returns-clause-version c = no_such_version

pub returns-clause-uses : goal.returns-clause-uses
returns-clause-uses c = uses_in_version_one

pub returns-clause-cell : goal.returns-clause-cell
returns-clause-cell c = no_such_cell
