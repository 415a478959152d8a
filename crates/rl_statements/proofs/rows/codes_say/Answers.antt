use Rattle.rl_statements.proofs.CodeRows.{hold_is_read, nested_exec_is_read, call_names_entry, goto_wants_name, text_is_not_read, fifth_is_too_many, none_behind_transfer, brace_ends_before, goal_has_statement, left_out_is_misplaced, reserved_is_no_name, entry_wants_parentheses}
use Rattle.rl_statements.proofs.rows.codes_say.Goals as goal

pub returns-clause-hold_is_read : goal.returns-clause-hold_is_read
returns-clause-hold_is_read c = hold_is_read

pub returns-clause-nested_exec_is_read : goal.returns-clause-nested_exec_is_read
returns-clause-nested_exec_is_read c = nested_exec_is_read

pub returns-clause-call_names_entry : goal.returns-clause-call_names_entry
returns-clause-call_names_entry c = call_names_entry

pub returns-clause-goto_wants_name : goal.returns-clause-goto_wants_name
returns-clause-goto_wants_name c = goto_wants_name

pub returns-clause-text_is_not_read : goal.returns-clause-text_is_not_read
returns-clause-text_is_not_read c = text_is_not_read

pub returns-clause-fifth_is_too_many : goal.returns-clause-fifth_is_too_many
returns-clause-fifth_is_too_many c = fifth_is_too_many

pub returns-clause-none_behind_transfer : goal.returns-clause-none_behind_transfer
returns-clause-none_behind_transfer c = none_behind_transfer

pub returns-clause-brace_ends_before : goal.returns-clause-brace_ends_before
returns-clause-brace_ends_before c = brace_ends_before

pub returns-clause-goal_has_statement : goal.returns-clause-goal_has_statement
returns-clause-goal_has_statement c = goal_has_statement

pub returns-clause-left_out_is_misplaced : goal.returns-clause-left_out_is_misplaced
returns-clause-left_out_is_misplaced c = left_out_is_misplaced

pub returns-clause-reserved_is_no_name : goal.returns-clause-reserved_is_no_name
returns-clause-reserved_is_no_name c = reserved_is_no_name

pub returns-clause-entry_wants_parentheses : goal.returns-clause-entry_wants_parentheses
returns-clause-entry_wants_parentheses c = entry_wants_parentheses
