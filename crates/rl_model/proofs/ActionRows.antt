-- Rows of actions, computed.
use Rattle.std.proofs.Common.{refl}
use Rattle.rl_automata.specs.Auto.{every_truths}
use Rattle.rl_types.specs.Alphabet.{characters}
use Rattle.rl_run.specs.Fine.{weight, tail_weight}
use Rattle.rl_run.specs.Run.{turns, at_letter, after, at_end, ending, at_kept, last_list, last_delivery}
use Rattle.rl_run.specs.Turn.{if_goes, deliver, marked, stepped, failed, missed, chosen, if_heard, sought, finished, body, turn}
use Rattle.rl_run.specs.Chain.{run_on}
use Rattle.rl_model.specs.ActionRows.{LeavesBeforeEntering, EmptyWordIsLeft, NewRoundLast, EntersFirst, GuardEnds, GuardIsLast, FromAndTo, ErrorActionRuns, ErrorActionAtEnd, NoErrorActionAtFinal, HigherStays, EqualAreJoined, LongestGoesOn, EachBegins, BothGoOn}

pub leaves_before_entering : LeavesBeforeEntering
unfolding characters every_truths run_on weight tail_weight turns at_letter after at_end ending at_kept last_list last_delivery if_goes deliver marked stepped failed missed chosen if_heard sought finished body turn
leaves_before_entering = λ tests honest. refl

pub empty_word_is_left : EmptyWordIsLeft
unfolding characters every_truths run_on weight tail_weight turns at_letter after at_end ending at_kept last_list last_delivery if_goes deliver marked stepped failed missed chosen if_heard sought finished body turn
empty_word_is_left = λ tests honest. refl

pub new_round_last : NewRoundLast
unfolding characters every_truths run_on weight tail_weight turns at_letter after at_end ending at_kept last_list last_delivery if_goes deliver marked stepped failed missed chosen if_heard sought finished body turn
new_round_last = λ tests honest. refl

pub enters_first : EntersFirst
unfolding characters every_truths run_on weight tail_weight turns at_letter after at_end ending at_kept last_list last_delivery if_goes deliver marked stepped failed missed chosen if_heard sought finished body turn
enters_first = λ tests honest. refl

pub guard_ends : GuardEnds
unfolding characters every_truths run_on weight tail_weight turns at_letter after at_end ending at_kept last_list last_delivery if_goes deliver marked stepped failed missed chosen if_heard sought finished body turn
guard_ends = λ tests honest. refl

pub guard_is_last : GuardIsLast
unfolding characters every_truths run_on weight tail_weight turns at_letter after at_end ending at_kept last_list last_delivery if_goes deliver marked stepped failed missed chosen if_heard sought finished body turn
guard_is_last = λ tests honest. refl

pub from_and_to : FromAndTo
unfolding characters every_truths run_on weight tail_weight turns at_letter after at_end ending at_kept last_list last_delivery if_goes deliver marked stepped failed missed chosen if_heard sought finished body turn
from_and_to = λ tests honest. refl

pub error_action_runs : ErrorActionRuns
unfolding characters every_truths run_on weight tail_weight turns at_letter after at_end ending at_kept last_list last_delivery if_goes deliver marked stepped failed missed chosen if_heard sought finished body turn
error_action_runs = λ tests honest. refl

pub error_action_at_end : ErrorActionAtEnd
unfolding characters every_truths run_on weight tail_weight turns at_letter after at_end ending at_kept last_list last_delivery if_goes deliver marked stepped failed missed chosen if_heard sought finished body turn
error_action_at_end = λ tests honest. refl

pub no_error_action_at_final : NoErrorActionAtFinal
unfolding characters every_truths run_on weight tail_weight turns at_letter after at_end ending at_kept last_list last_delivery if_goes deliver marked stepped failed missed chosen if_heard sought finished body turn
no_error_action_at_final = λ tests honest. refl

pub higher_stays : HigherStays
unfolding characters every_truths run_on weight tail_weight turns at_letter after at_end ending at_kept last_list last_delivery if_goes deliver marked stepped failed missed chosen if_heard sought finished body turn
higher_stays = λ tests honest. refl

pub equal_are_joined : EqualAreJoined
unfolding characters every_truths run_on weight tail_weight turns at_letter after at_end ending at_kept last_list last_delivery if_goes deliver marked stepped failed missed chosen if_heard sought finished body turn
equal_are_joined = λ tests honest. refl

pub longest_goes_on : LongestGoesOn
unfolding characters every_truths run_on weight tail_weight turns at_letter after at_end ending at_kept last_list last_delivery if_goes deliver marked stepped failed missed chosen if_heard sought finished body turn
longest_goes_on = λ tests honest. refl

pub each_begins : EachBegins
unfolding characters every_truths run_on weight tail_weight turns at_letter after at_end ending at_kept last_list last_delivery if_goes deliver marked stepped failed missed chosen if_heard sought finished body turn
each_begins = λ tests honest. refl

pub both_go_on : BothGoOn
unfolding characters every_truths run_on weight tail_weight turns at_letter after at_end ending at_kept last_list last_delivery if_goes deliver marked stepped failed missed chosen if_heard sought finished body turn
both_go_on = λ tests honest. refl
