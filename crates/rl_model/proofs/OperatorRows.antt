-- Rows of operators.
use Rattle.std.proofs.Common.{refl}
use Rattle.rl_automata.specs.Auto.{every_truths}
use Rattle.rl_types.specs.Alphabet.{characters}
use Rattle.rl_run.specs.Fine.{weight, tail_weight}
use Rattle.rl_run.specs.Run.{turns, at_letter, after, at_end, ending, at_kept, last_list, last_delivery}
use Rattle.rl_run.specs.Turn.{if_goes, deliver, marked, stepped, failed, missed, chosen, if_heard, sought, finished, body, turn}
use Rattle.rl_run.specs.Chain.{run_on}
use Rattle.rl_model.specs.OperatorRows.{HoldsAndRuns, FailsAndStays, AskedOnlyThere}

pub holds_and_runs : HoldsAndRuns
unfolding characters every_truths run_on weight tail_weight turns at_letter after at_end ending at_kept last_list last_delivery if_goes deliver marked stepped failed missed chosen if_heard sought finished body turn
holds_and_runs = λ tests honest. refl

pub fails_and_stays : FailsAndStays
unfolding characters every_truths run_on weight tail_weight turns at_letter after at_end ending at_kept last_list last_delivery if_goes deliver marked stepped failed missed chosen if_heard sought finished body turn
fails_and_stays = λ tests honest. refl

pub asked_only_there : AskedOnlyThere
unfolding characters every_truths run_on weight tail_weight turns at_letter after at_end ending at_kept last_list last_delivery if_goes deliver marked stepped failed missed chosen if_heard sought finished body turn
asked_only_there = λ tests honest. refl
