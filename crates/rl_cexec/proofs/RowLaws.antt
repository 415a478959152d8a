-- Codes and texts as they are printed, computed.
use Rattle.std.proofs.Common.{refl}
use Rattle.std.specs.Fmt.{digits}
use Rattle.rl_cexec.specs.Names.{filled_from}
use Rattle.rl_cexec.specs.Code.{turn, code_from, goal_len}
use Rattle.rl_cexec.specs.Texts.{init_text}
use Rattle.rl_cexec.specs.Rows.{CharacterIsRead, CallPushes, EndLeavesRun, GoalIsKept, GoalHasValues, TextIsKept, NamesAreReplaced, EntryIsNumber, ShortInit, LongInit}

pub character_is_read : CharacterIsRead
unfolding filled_from turn code_from goal_len digits
character_is_read a = refl

pub call_pushes : CallPushes
unfolding filled_from turn code_from goal_len digits
call_pushes a = refl

pub end_leaves_run : EndLeavesRun
unfolding filled_from turn code_from goal_len digits
end_leaves_run a = refl

pub goal_is_kept : GoalIsKept
unfolding filled_from turn code_from goal_len digits
goal_is_kept a = refl

pub goal_has_values : GoalHasValues
unfolding filled_from turn code_from goal_len digits
goal_has_values a = refl

pub text_is_kept : TextIsKept
unfolding filled_from turn code_from goal_len digits
text_is_kept a = refl

pub names_are_replaced : NamesAreReplaced
unfolding filled_from turn code_from goal_len digits
names_are_replaced a = refl

pub entry_is_number : EntryIsNumber
unfolding filled_from turn code_from goal_len digits
entry_is_number a = refl

pub short_init : ShortInit
unfolding filled_from init_text
short_init spec e t a = refl

pub long_init : LongInit
unfolding filled_from init_text
long_init spec e a = refl
