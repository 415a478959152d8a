use Rattle.ragel_run.proofs.Steps.{line_given, line_wanting}
use Rattle.ragel_run.proofs.made.line_for.Goals as goal

pub returns-in-Ok-line_by-clause-gives : goal.returns-in-Ok-line_by-clause-gives
returns-in-Ok-line_by-clause-gives g c =
    line_given _ (record { lines = c.args.lines; spec = c.args.name.now }) _ _ _ _ c.in-Ok.ensures.reads c.in-Ok-line_by.ensures

pub returns-clause-gives : goal.returns-clause-gives
returns-clause-gives g c = line_wanting _ (record { lines = c.args.lines; spec = c.args.name.now }) _ _ _ c.in-Ok.ensures.reads
