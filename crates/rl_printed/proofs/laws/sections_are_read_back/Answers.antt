use Rattle.rl_printed.proofs.PieceLaws.{read_back, each_read_back, first_read_back}
use Rattle.rl_printed.proofs.NameLaws.{machines_read_back}
use Rattle.rl_printed.proofs.laws.sections_are_read_back.Goals as goal

pub returns-clause-named : goal.returns-clause-named
returns-clause-named c = read_back

pub returns-clause-first : goal.returns-clause-first
returns-clause-first c = first_read_back

pub returns-clause-each : goal.returns-clause-each
returns-clause-each c = each_read_back

pub returns-clause-machines : goal.returns-clause-machines
returns-clause-machines c = machines_read_back
