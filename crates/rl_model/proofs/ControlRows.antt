-- Rows of control statements, computed.
use Rattle.std.proofs.Common.{refl}
use Rattle.rl_automata.specs.Auto.{every_truths}
use Rattle.rl_types.specs.Alphabet.{characters}
use Rattle.rl_run.specs.Fine.{weight, tail_weight}
use Rattle.rl_run.specs.Run.{turns, at_letter, after, at_end, ending, at_kept, last_list, last_delivery}
use Rattle.rl_run.specs.Turn.{if_goes, deliver, marked, stepped, failed, missed, chosen, if_heard, sought, finished, body, turn}
use Rattle.rl_run.specs.Chain.{run_on}
use Rattle.rl_model.specs.ControlRows.{NoRoomToPush, NothingToPop}

pub no_room_to_push : NoRoomToPush
unfolding characters every_truths run_on weight tail_weight turns at_letter after at_end ending at_kept last_list last_delivery if_goes deliver marked stepped failed missed chosen if_heard sought finished body turn
no_room_to_push = λ tests honest. refl

pub nothing_to_pop : NothingToPop
unfolding characters every_truths run_on weight tail_weight turns at_letter after at_end ending at_kept last_list last_delivery if_goes deliver marked stepped failed missed chosen if_heard sought finished body turn
nothing_to_pop = λ tests honest. refl
