use Rattle.rl_rows.proofs.PlainRows.{each_character, stop_stays, leaves_before_entering, each_word_once, empty_word_is_left, new_round_last, enters_first, guard_ends, guard_is_last}
use Rattle.rl_rows.proofs.rows.actions_are_written.Goals as goal

pub returns-clause-each_character : goal.returns-clause-each_character
returns-clause-each_character c = each_character

pub returns-clause-stop_stays : goal.returns-clause-stop_stays
returns-clause-stop_stays c = stop_stays

pub returns-clause-leaves_before_entering : goal.returns-clause-leaves_before_entering
returns-clause-leaves_before_entering c = leaves_before_entering

pub returns-clause-each_word_once : goal.returns-clause-each_word_once
returns-clause-each_word_once c = each_word_once

pub returns-clause-empty_word_is_left : goal.returns-clause-empty_word_is_left
returns-clause-empty_word_is_left c = empty_word_is_left

pub returns-clause-new_round_last : goal.returns-clause-new_round_last
returns-clause-new_round_last c = new_round_last

pub returns-clause-enters_first : goal.returns-clause-enters_first
returns-clause-enters_first c = enters_first

pub returns-clause-guard_ends : goal.returns-clause-guard_ends
returns-clause-guard_ends c = guard_ends

pub returns-clause-guard_is_last : goal.returns-clause-guard_is_last
returns-clause-guard_is_last c = guard_is_last
