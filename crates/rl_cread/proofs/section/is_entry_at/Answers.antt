use Rattle.rl_cread.specs.Lines.{IsEntryLine}
use Rattle.rl_cread.proofs.EntryFound.{at_result}
use Rattle.rl_cread.proofs.section.is_entry_at.Goals as goal

pub returns-in-Some : goal.returns-in-Some
returns-in-Some c = at_result (IsEntryLine c.args.name.now) _ c.in-Some.line.now c.is_entry.result c.in-Some.ensures c.is_entry.ensures
