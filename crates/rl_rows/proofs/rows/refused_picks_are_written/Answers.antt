use Rattle.rl_rows.proofs.PlainRows.{no_room_to_push, nothing_to_pop, stray_pick, too_far_back, behind_end}
use Rattle.rl_rows.proofs.rows.refused_picks_are_written.Goals as goal

pub returns-clause-no_room_to_push : goal.returns-clause-no_room_to_push
returns-clause-no_room_to_push c = no_room_to_push

pub returns-clause-nothing_to_pop : goal.returns-clause-nothing_to_pop
returns-clause-nothing_to_pop c = nothing_to_pop

pub returns-clause-stray_pick : goal.returns-clause-stray_pick
returns-clause-stray_pick c = stray_pick

pub returns-clause-too_far_back : goal.returns-clause-too_far_back
returns-clause-too_far_back c = too_far_back

pub returns-clause-behind_end : goal.returns-clause-behind_end
returns-clause-behind_end c = behind_end
