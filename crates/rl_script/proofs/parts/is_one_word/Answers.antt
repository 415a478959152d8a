use Rattle.rl_script.proofs.PartLaws.{not_one_word}
use Rattle.rl_script.proofs.parts.is_one_word.Goals as goal

pub returns-in-Some-clause-value : goal.returns-in-Some-clause-value
returns-in-Some-clause-value c = not_one_word c.args.text.now c.in-Some.field-0.0.now c.in-Some.field-0.1.now c.in-Some.ensures.parts
