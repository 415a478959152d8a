use Rattle.std.proofs.Common.{Some, None, ap, sym, ◌∙◌}
use Rattle.clap.specs.Words.{app_of}
use Rattle.rl_words.specs.Runs.{run_given}
use Rattle.rl_words.specs.Told.{texts, run_told}
use Rattle.rl_words.proofs.MatchLaws.{run_said}
use Rattle.rl_words.proofs.replays.run_words.Goals as goal

pub returns-in-Some-clause-said : goal.returns-in-Some-clause-said
returns-in-Some-clause-said c =
    run_said (app_of c.in-Ok.command) (texts c.args.words.now) c.in-Ok-matched.matches (Some (run_told c.in-Some.run')) c.in-Ok.ensures
    c.in-Ok-matched.ensures (ap run_given (sym c.all_given.ensures) ∙ sym c.in-Some.ensures)

pub returns-in-Ok-matched-clause-refused : goal.returns-in-Ok-matched-clause-refused
returns-in-Ok-matched-clause-refused c =
    run_said (app_of c.in-Ok.command) (texts c.args.words.now) c.in-Ok-matched.matches None c.in-Ok.ensures
    c.in-Ok-matched.ensures (ap run_given (sym c.all_given.ensures) ∙ sym c.in-None.ensures)
