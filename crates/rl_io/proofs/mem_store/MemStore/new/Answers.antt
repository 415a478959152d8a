use Rattle.rl_io.proofs.Held.{holds_files}
use Rattle.rl_io.proofs.mem_store.MemStore.new.Goals as goal

pub returns-clause-holds : goal.returns-clause-holds
returns-clause-holds c = holds_files _ c.requires.names_differ c.requires.names_are_text
