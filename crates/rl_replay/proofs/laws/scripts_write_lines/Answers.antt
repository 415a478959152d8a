use Rattle.rl_replay.proofs.Rows.{three_lines, bad_word, fed_unopened, opened_twice, no_entry, each_call, stopped, left_behind, interleaved, second_call_picked, no_such_statement, cut_character, half_a_character}
use Rattle.rl_replay.proofs.laws.scripts_write_lines.Goals as goal

pub returns-clause-three_lines : goal.returns-clause-three_lines
returns-clause-three_lines c = three_lines

pub returns-clause-no_line : goal.returns-clause-no_line
returns-clause-no_line c = bad_word

pub returns-clause-not_open : goal.returns-clause-not_open
returns-clause-not_open c = fed_unopened

pub returns-clause-twice : goal.returns-clause-twice
returns-clause-twice c = opened_twice

pub returns-clause-no_entry : goal.returns-clause-no_entry
returns-clause-no_entry c = no_entry

pub returns-clause-calls : goal.returns-clause-calls
returns-clause-calls c = each_call

pub returns-clause-stop : goal.returns-clause-stop
returns-clause-stop c = stopped

pub returns-clause-left : goal.returns-clause-left
returns-clause-left c = left_behind

pub returns-clause-turns : goal.returns-clause-turns
returns-clause-turns c = interleaved

pub returns-clause-picks : goal.returns-clause-picks
returns-clause-picks c = second_call_picked

pub returns-clause-stray : goal.returns-clause-stray
returns-clause-stray c = no_such_statement

pub returns-clause-cut : goal.returns-clause-cut
returns-clause-cut c = cut_character

pub returns-clause-half_key : goal.returns-clause-half_key
returns-clause-half_key c = half_a_character
