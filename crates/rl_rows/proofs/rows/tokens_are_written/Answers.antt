use Rattle.rl_rows.proofs.TestedRows.{backs_up, pieces_add_up, sessions_take_turns, keyword_then_word, token_is_too_long}
use Rattle.rl_rows.proofs.rows.tokens_are_written.Goals as goal

pub returns-clause-backs_up : goal.returns-clause-backs_up
returns-clause-backs_up c = backs_up

pub returns-clause-pieces_add_up : goal.returns-clause-pieces_add_up
returns-clause-pieces_add_up c = pieces_add_up

pub returns-clause-sessions_take_turns : goal.returns-clause-sessions_take_turns
returns-clause-sessions_take_turns c = sessions_take_turns

pub returns-clause-keyword_then_word : goal.returns-clause-keyword_then_word
returns-clause-keyword_then_word c = keyword_then_word

pub returns-clause-token_is_too_long : goal.returns-clause-token_is_too_long
returns-clause-token_is_too_long c = token_is_too_long
