use Rattle.rl_run.specs.Picks.{entry_number}
use Rattle.rl_arrays.specs.TableMachine.{machine}
use Rattle.rl_runner.proofs.picks.stated.Goals as goal

pub returns-in-Hold-None-clause-says : goal.returns-in-Hold-None-clause-says
returns-in-Hold-None-clause-says c =
    rw (c.in-Hold-None.is-0, c.in-Hold-None.is-1) (c.hold.ensures.says (machine c.args.tables.now) c.args.settings.now c.args.stray (entry_number c.args.statement.now.entry))
