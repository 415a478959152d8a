use Rattle.rl_cread.proofs.EntryFound.{entry_found}
use Rattle.rl_cread.proofs.section.is_entry.Goals as goal

pub returns : goal.returns
returns c = entry_found c.args.name.now c.args.line.now c.in_ok-entry.entry c.is_some.result c.is_some.ensures c.in_ok-entry.ensures
