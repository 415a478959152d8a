use Rattle.rl_cread.proofs.Slots.{no_entry_said}
use Rattle.rl_cread.proofs.lines.read_line.Goals as goal

pub returns-in-None-2 : goal.returns-in-None-2
returns-in-None-2 c = rw c.in-Entry.is (no_entry_said c.args.name.now c.args.line.now (rw c.in-None-2.is at c.in_ok-entry-in-Entry.ensures))
