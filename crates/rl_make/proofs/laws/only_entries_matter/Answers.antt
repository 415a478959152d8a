use Rattle.rl_make.proofs.NameLaws.{names_alike, one_session_alike}
use Rattle.rl_make.proofs.laws.only_entries_matter.Goals as goal

pub returns-clause-scripts : goal.returns-clause-scripts
returns-clause-scripts c = λ names other m settings script e. names_alike names other e m settings script

pub returns-clause-session : goal.returns-clause-session
returns-clause-session c = λ names other m settings s entry bytes e. one_session_alike names other m settings s entry bytes e
