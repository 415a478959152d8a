use Rattle.rl_io.proofs.Held.{held_by-put}
use Rattle.rl_io.proofs.mem_store.MemStoreStore.write.Goals.{in-Ok, in-Err}
use Rattle.rl_io.proofs.mem_store.MemStoreStore.write.Goals as goal

pub returns-clause-written : goal.returns-clause-written
returns-clause-written c =
    elim c.match-put_file.branch [
      | in-Ok w ↦ rw w.result-is (held_by-put _ _ _ _ c.utf8.name (rw c.as_bytes.ensures.value at w.in-Ok.ensures.ok))
      | in-Err w ↦ rw w.result-is tt
    ]
