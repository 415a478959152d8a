use Rattle.rl_script.proofs.PartLaws.{more_than_four}
use Rattle.rl_script.proofs.parts.answer_words.Goals as goal

pub returns-in-Some : goal.returns-in-Some
returns-in-Some c =
    more_than_four c.args.text.now c.in_ok-session.session.now c.in_ok-name.name.now c.in_ok-count.count.now
    c.in_ok-session.rest.now c.in_ok-name.rest.now c.in_ok-count.answer.now
    c.in_ok-session.ensures.parts c.in_ok-name.ensures.parts
    c.in-Some.field-0.0.now c.in-Some.field-0.1.now c.in_ok-count.ensures.parts c.in-Some.ensures.parts
