use Rattle.rl_rows.proofs.PlainRows.{empty_word_is_final, character_is_due, no_word_is_final}
use Rattle.rl_rows.proofs.rows.words_are_accepted.Goals as goal

pub returns-clause-empty_word_is_final : goal.returns-clause-empty_word_is_final
returns-clause-empty_word_is_final c = empty_word_is_final

pub returns-clause-character_is_due : goal.returns-clause-character_is_due
returns-clause-character_is_due c = character_is_due

pub returns-clause-no_word_is_final : goal.returns-clause-no_word_is_final
returns-clause-no_word_is_final c = no_word_is_final
