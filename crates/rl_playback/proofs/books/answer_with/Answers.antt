use Rattle.std.proofs.Common.{ap}
use Rattle.rl_run.specs.declared.calls.Answer.TheVariants.{Picks}
use Rattle.rl_replay.specs.Host.{pick_of}
use Rattle.rl_playback.proofs.Fours.{four_of}
use Rattle.rl_playback.proofs.books.answer_with.Goals as goal

pub returns : goal.returns
returns c =
    rw (c.pick_at.ensures, c.pick_at-2.ensures, c.pick_at-3.ensures, c.pick_at-4.ensures)
    (ap (λ list. Picks list) (four_of (λ x. pick_of x.0 x.1) c.args.list.now))
