use Rattle.rl_language.proofs.SmallWords.{rounds_are_whole, a_difference_is_the_rest, an_intersection_is_in_both, each_letter_has_the_condition}
use Rattle.rl_language.proofs.rows.words_of_small_expressions.Goals as goal

pub returns : goal.returns
returns c = record { repetition = rounds_are_whole; difference = a_difference_is_the_rest; intersection = an_intersection_is_in_both; condition = each_letter_has_the_condition }
