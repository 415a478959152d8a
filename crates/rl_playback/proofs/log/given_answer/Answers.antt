use Rattle.std.proofs.Common.{ℕ, List, subst, sym, ◌∙◌}
use Rattle.rl_playback.specs.Books.{TakesNext}
use Rattle.rl_playback.proofs.GivenLaws.{asked_call, picked_call}
use Rattle.rl_playback.proofs.Results.{if_ok}
use Rattle.rl_playback.proofs.log.given_answer.Goals as goal

pub returns-then-is_ask-clause-answer : goal.returns-then-is_ask-clause-answer
returns-then-is_ask-clause-answer c =
    if_ok c.next_answer.result
    (λ answer t. asked_call c.args.log.now c.args.call.now answer c.next_answer.new.book (sym c.is_ask.ensures ∙ c.if-is_ask.true)
    (subst (λ (name : List ℕ). TakesNext c.args.log.now.books.asks c.next_answer.new.book (c.args.log.now.session.now, name) answer) c.name_called-name.ensures t))
    c.next_answer.ensures

pub returns-then-takes_picks-clause-answer : goal.returns-then-takes_picks-clause-answer
returns-then-takes_picks-clause-answer c =
    if_ok c.next_answer-then-takes_picks.result
    (λ answer t. picked_call c.args.log.now c.args.call.now answer c.next_answer-then-takes_picks.new.book (sym c.takes_picks.ensures ∙ c.if-takes_picks.true)
    (subst (λ (name : List ℕ). TakesNext c.args.log.now.books.picks c.next_answer-then-takes_picks.new.book (c.args.log.now.session.now, name) answer) c.name_called-name.ensures t))
    c.next_answer-then-takes_picks.ensures
