use Rattle.std.proofs.Common.{ap, sym, ◌∙◌, is_some}
use Rattle.rl_playback.proofs.Maps.{answer_at, put_there}
use Rattle.rl_playback.proofs.books.add_answer.Goals as goal

pub returns-in-Ok : goal.returns-in-Ok
returns-in-Ok c = λ q n.
    ap (answer_at q n) c.in-Ok.ensures.entries
    ∙ put_there q n ((c.args.session, c.args.name), c.args.number) c.args.answer c.args.answers.now.entries
    (sym (ap (λ o. is_some o) c.answer_of.ensures) ∙ (sym c.is_some.ensures ∙ c.if-is_some.false))
