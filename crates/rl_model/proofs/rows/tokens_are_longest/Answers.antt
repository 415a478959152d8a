use Rattle.rl_model.proofs.ScannerRows.{backs_up, token_at_once, keyword_then_word}
use Rattle.rl_model.proofs.rows.tokens_are_longest.Goals as goal

pub returns-clause-backs_up : goal.returns-clause-backs_up
returns-clause-backs_up c = backs_up

pub returns-clause-token_at_once : goal.returns-clause-token_at_once
returns-clause-token_at_once c = token_at_once

pub returns-clause-keyword_then_word : goal.returns-clause-keyword_then_word
returns-clause-keyword_then_word c = keyword_then_word
