use Rattle.std.proofs.Common.{sym, ◌∙◌}
use Rattle.rl_script.proofs.EventLaws.{opens_without_entry}
use Rattle.rl_script.proofs.events.open_at.Goals as goal

pub returns-then-not-is_one_word : goal.returns-then-not-is_one_word
returns-then-not-is_one_word c = opens_without_entry c.args.session.now c.args.entry.now (sym c.is_one_word.ensures.value ∙ c.if-not-is_one_word.true)
