use Rattle.clap.specs.Words.{app_of}
use Rattle.rl_words.specs.Told.{texts}
use Rattle.rl_words.proofs.MatchLaws.{rows_matched}
use Rattle.rl_words.proofs.fault.matched.Goals as goal

pub returns-in-Ok : goal.returns-in-Ok
returns-in-Ok c = λ s.
    (c.in-Ok.ensures.kinds s, rows_matched (app_of c.args.command) (texts c.args.words.now) c.in-Ok.matches s c.in-Ok.ensures.matches)
