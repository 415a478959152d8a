use Rattle.ragel_run.proofs.replay.run_telling.Goals as goal

pub returns : goal.returns
returns g c = (c.run-end.result, c.run-end.ensures, c.status_for.ensures, c.tell-told.ensures)
