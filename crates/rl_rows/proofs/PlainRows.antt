-- Rows without tests, computed.
use Rattle.std.proofs.Common.{refl}
use Rattle.std.specs.Fmt.{digits}
use Rattle.rl_automata.specs.Auto.{every_truths}
use Rattle.rl_types.specs.Alphabet.{characters}
use Rattle.rl_run.specs.Fine.{weight, tail_weight}
use Rattle.rl_run.specs.Run.{turns, at_letter, after, at_end, ending, at_kept, last_list, last_delivery}
use Rattle.rl_run.specs.Turn.{if_goes, deliver, marked, stepped, failed, missed, chosen, if_heard, sought, finished, body, turn}
use Rattle.rl_run.specs.Chain.{run_on}
use Rattle.rl_replay.specs.Host.{statements_from, statements_of}
use Rattle.rl_rows.specs.PlainRows.{EmptyWordIsFinal, CharacterIsDue, NoWordIsFinal, EachCharacter, StopStays, LeavesBeforeEntering, EachWordOnce, EmptyWordIsLeft, NewRoundLast, EntersFirst, GuardEnds, GuardIsLast, FromAndTo, ErrorActionRuns, ErrorActionAtEnd, HigherStays, EqualAreJoined, LongestGoesOn, EachBegins, BothGoOn, TwoBytesEach, CutWithin, HalfAtEnd, UpperHalfBelowZero, SaidYes, NotSaid, NoRoomToPush, NothingToPop, StrayPick, TooFarBack, BehindEnd}

pub empty_word_is_final : EmptyWordIsFinal
unfolding characters statements_from statements_of digits every_truths run_on weight tail_weight turns at_letter after at_end ending at_kept last_list last_delivery if_goes deliver marked stepped failed missed chosen if_heard sought finished body turn
empty_word_is_final = λ tests honest. refl

pub character_is_due : CharacterIsDue
unfolding characters statements_from statements_of digits every_truths run_on weight tail_weight turns at_letter after at_end ending at_kept last_list last_delivery if_goes deliver marked stepped failed missed chosen if_heard sought finished body turn
character_is_due = λ tests honest. refl

pub no_word_is_final : NoWordIsFinal
unfolding characters statements_from statements_of digits every_truths run_on weight tail_weight turns at_letter after at_end ending at_kept last_list last_delivery if_goes deliver marked stepped failed missed chosen if_heard sought finished body turn
no_word_is_final = λ tests honest. refl

pub each_character : EachCharacter
unfolding characters statements_from statements_of digits every_truths run_on weight tail_weight turns at_letter after at_end ending at_kept last_list last_delivery if_goes deliver marked stepped failed missed chosen if_heard sought finished body turn
each_character = λ tests honest. refl

pub stop_stays : StopStays
unfolding characters statements_from statements_of digits every_truths run_on weight tail_weight turns at_letter after at_end ending at_kept last_list last_delivery if_goes deliver marked stepped failed missed chosen if_heard sought finished body turn
stop_stays = λ tests honest. refl

pub leaves_before_entering : LeavesBeforeEntering
unfolding characters statements_from statements_of digits every_truths run_on weight tail_weight turns at_letter after at_end ending at_kept last_list last_delivery if_goes deliver marked stepped failed missed chosen if_heard sought finished body turn
leaves_before_entering = λ tests honest. refl

pub each_word_once : EachWordOnce
unfolding characters statements_from statements_of digits every_truths run_on weight tail_weight turns at_letter after at_end ending at_kept last_list last_delivery if_goes deliver marked stepped failed missed chosen if_heard sought finished body turn
each_word_once = λ tests honest. refl

pub empty_word_is_left : EmptyWordIsLeft
unfolding characters statements_from statements_of digits every_truths run_on weight tail_weight turns at_letter after at_end ending at_kept last_list last_delivery if_goes deliver marked stepped failed missed chosen if_heard sought finished body turn
empty_word_is_left = λ tests honest. refl

pub new_round_last : NewRoundLast
unfolding characters statements_from statements_of digits every_truths run_on weight tail_weight turns at_letter after at_end ending at_kept last_list last_delivery if_goes deliver marked stepped failed missed chosen if_heard sought finished body turn
new_round_last = λ tests honest. refl

pub enters_first : EntersFirst
unfolding characters statements_from statements_of digits every_truths run_on weight tail_weight turns at_letter after at_end ending at_kept last_list last_delivery if_goes deliver marked stepped failed missed chosen if_heard sought finished body turn
enters_first = λ tests honest. refl

pub guard_ends : GuardEnds
unfolding characters statements_from statements_of digits every_truths run_on weight tail_weight turns at_letter after at_end ending at_kept last_list last_delivery if_goes deliver marked stepped failed missed chosen if_heard sought finished body turn
guard_ends = λ tests honest. refl

pub guard_is_last : GuardIsLast
unfolding characters statements_from statements_of digits every_truths run_on weight tail_weight turns at_letter after at_end ending at_kept last_list last_delivery if_goes deliver marked stepped failed missed chosen if_heard sought finished body turn
guard_is_last = λ tests honest. refl

pub from_and_to : FromAndTo
unfolding characters statements_from statements_of digits every_truths run_on weight tail_weight turns at_letter after at_end ending at_kept last_list last_delivery if_goes deliver marked stepped failed missed chosen if_heard sought finished body turn
from_and_to = λ tests honest. refl

pub error_action_runs : ErrorActionRuns
unfolding characters statements_from statements_of digits every_truths run_on weight tail_weight turns at_letter after at_end ending at_kept last_list last_delivery if_goes deliver marked stepped failed missed chosen if_heard sought finished body turn
error_action_runs = λ tests honest. refl

pub error_action_at_end : ErrorActionAtEnd
unfolding characters statements_from statements_of digits every_truths run_on weight tail_weight turns at_letter after at_end ending at_kept last_list last_delivery if_goes deliver marked stepped failed missed chosen if_heard sought finished body turn
error_action_at_end = λ tests honest. refl

pub higher_stays : HigherStays
unfolding characters statements_from statements_of digits every_truths run_on weight tail_weight turns at_letter after at_end ending at_kept last_list last_delivery if_goes deliver marked stepped failed missed chosen if_heard sought finished body turn
higher_stays = λ tests honest. refl

pub equal_are_joined : EqualAreJoined
unfolding characters statements_from statements_of digits every_truths run_on weight tail_weight turns at_letter after at_end ending at_kept last_list last_delivery if_goes deliver marked stepped failed missed chosen if_heard sought finished body turn
equal_are_joined = λ tests honest. refl

pub longest_goes_on : LongestGoesOn
unfolding characters statements_from statements_of digits every_truths run_on weight tail_weight turns at_letter after at_end ending at_kept last_list last_delivery if_goes deliver marked stepped failed missed chosen if_heard sought finished body turn
longest_goes_on = λ tests honest. refl

pub each_begins : EachBegins
unfolding characters statements_from statements_of digits every_truths run_on weight tail_weight turns at_letter after at_end ending at_kept last_list last_delivery if_goes deliver marked stepped failed missed chosen if_heard sought finished body turn
each_begins = λ tests honest. refl

pub both_go_on : BothGoOn
unfolding characters statements_from statements_of digits every_truths run_on weight tail_weight turns at_letter after at_end ending at_kept last_list last_delivery if_goes deliver marked stepped failed missed chosen if_heard sought finished body turn
both_go_on = λ tests honest. refl

pub two_bytes_each : TwoBytesEach
unfolding characters statements_from statements_of digits every_truths run_on weight tail_weight turns at_letter after at_end ending at_kept last_list last_delivery if_goes deliver marked stepped failed missed chosen if_heard sought finished body turn
two_bytes_each = λ tests honest. refl

pub cut_within : CutWithin
unfolding characters statements_from statements_of digits every_truths run_on weight tail_weight turns at_letter after at_end ending at_kept last_list last_delivery if_goes deliver marked stepped failed missed chosen if_heard sought finished body turn
cut_within = λ tests honest. refl

pub half_at_end : HalfAtEnd
unfolding characters statements_from statements_of digits every_truths run_on weight tail_weight turns at_letter after at_end ending at_kept last_list last_delivery if_goes deliver marked stepped failed missed chosen if_heard sought finished body turn
half_at_end = λ tests honest. refl

pub upper_half_below_zero : UpperHalfBelowZero
unfolding characters statements_from statements_of digits every_truths run_on weight tail_weight turns at_letter after at_end ending at_kept last_list last_delivery if_goes deliver marked stepped failed missed chosen if_heard sought finished body turn
upper_half_below_zero = λ tests honest. refl

pub said_yes : SaidYes
unfolding characters statements_from statements_of digits every_truths run_on weight tail_weight turns at_letter after at_end ending at_kept last_list last_delivery if_goes deliver marked stepped failed missed chosen if_heard sought finished body turn
said_yes = λ tests honest. refl

pub not_said : NotSaid
unfolding characters statements_from statements_of digits every_truths run_on weight tail_weight turns at_letter after at_end ending at_kept last_list last_delivery if_goes deliver marked stepped failed missed chosen if_heard sought finished body turn
not_said = λ tests honest. refl

pub no_room_to_push : NoRoomToPush
unfolding characters statements_from statements_of digits every_truths run_on weight tail_weight turns at_letter after at_end ending at_kept last_list last_delivery if_goes deliver marked stepped failed missed chosen if_heard sought finished body turn
no_room_to_push = λ tests honest. refl

pub nothing_to_pop : NothingToPop
unfolding characters statements_from statements_of digits every_truths run_on weight tail_weight turns at_letter after at_end ending at_kept last_list last_delivery if_goes deliver marked stepped failed missed chosen if_heard sought finished body turn
nothing_to_pop = λ tests honest. refl

pub stray_pick : StrayPick
unfolding characters statements_from statements_of digits every_truths run_on weight tail_weight turns at_letter after at_end ending at_kept last_list last_delivery if_goes deliver marked stepped failed missed chosen if_heard sought finished body turn
stray_pick = λ tests honest. refl

pub too_far_back : TooFarBack
unfolding characters statements_from statements_of digits every_truths run_on weight tail_weight turns at_letter after at_end ending at_kept last_list last_delivery if_goes deliver marked stepped failed missed chosen if_heard sought finished body turn
too_far_back = λ tests honest. refl

pub behind_end : BehindEnd
unfolding characters statements_from statements_of digits every_truths run_on weight tail_weight turns at_letter after at_end ending at_kept last_list last_delivery if_goes deliver marked stepped failed missed chosen if_heard sought finished body turn
behind_end = λ tests honest. refl
