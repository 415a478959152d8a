use Rattle.std.proofs.Common.{Some, None, sym}
use Rattle.clap.specs.Words.{app_of}
use Rattle.rl_words.specs.Told.{texts, compile_told}
use Rattle.rl_words.proofs.MatchLaws.{compile_said}
use Rattle.rl_words.proofs.compiles.compile_words.Goals as goal

pub returns-in-Some-clause-said : goal.returns-in-Some-clause-said
returns-in-Some-clause-said c =
    compile_said (app_of c.in-Ok.command) (texts c.args.words.now) c.in-Ok-matched.matches (Some (compile_told c.in-Some.compile)) c.in-Ok.ensures
    c.in-Ok-matched.ensures (sym c.in-Some.ensures)

pub returns-in-Ok-matched-clause-refused : goal.returns-in-Ok-matched-clause-refused
returns-in-Ok-matched-clause-refused c =
    compile_said (app_of c.in-Ok.command) (texts c.args.words.now) c.in-Ok-matched.matches None c.in-Ok.ensures
    c.in-Ok-matched.ensures (sym c.in-None.ensures)
