-- Codes and what they say, computed.
use Rattle.std.proofs.Common.{refl}
use Rattle.rl_code.specs.Texts.{up_to_semicolon}
use Rattle.rl_code.specs.Sayings.{sayings_from}
use Rattle.rl_statements.specs.Rows.{HoldIsRead, NestedExecIsRead, CallNamesEntry, GotoWantsName, TextIsNotRead, FifthIsTooMany, NoneBehindTransfer, BraceEndsBefore, GoalHasStatement, LeftOutIsMisplaced, ReservedIsNoName, EntryWantsParentheses}

pub hold_is_read : HoldIsRead
unfolding sayings_from up_to_semicolon
hold_is_read = refl

pub nested_exec_is_read : NestedExecIsRead
unfolding sayings_from up_to_semicolon
nested_exec_is_read = refl

pub call_names_entry : CallNamesEntry
unfolding sayings_from up_to_semicolon
call_names_entry = refl

pub goto_wants_name : GotoWantsName
unfolding sayings_from up_to_semicolon
goto_wants_name = refl

pub text_is_not_read : TextIsNotRead
unfolding sayings_from up_to_semicolon
text_is_not_read = refl

pub fifth_is_too_many : FifthIsTooMany
unfolding sayings_from up_to_semicolon
fifth_is_too_many = refl

pub none_behind_transfer : NoneBehindTransfer
unfolding sayings_from up_to_semicolon
none_behind_transfer = refl

pub brace_ends_before : BraceEndsBefore
unfolding sayings_from up_to_semicolon
brace_ends_before = refl

pub goal_has_statement : GoalHasStatement
unfolding sayings_from up_to_semicolon
goal_has_statement = refl

pub left_out_is_misplaced : LeftOutIsMisplaced
unfolding sayings_from up_to_semicolon
left_out_is_misplaced = refl

pub reserved_is_no_name : ReservedIsNoName
unfolding sayings_from up_to_semicolon
reserved_is_no_name = refl

pub entry_wants_parentheses : EntryWantsParentheses
unfolding sayings_from up_to_semicolon
entry_wants_parentheses = refl
