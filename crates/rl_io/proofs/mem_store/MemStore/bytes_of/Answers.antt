use Rattle.std.proofs.Common.{ap}
use Rattle.rl_io.specs.Memory.{StoredFiles}
use Rattle.rl_io.proofs.Held.{held_by-text}
use Rattle.rl_io.proofs.mem_store.MemStore.bytes_of.Goals as goal

pub returns : goal.returns
returns c =
    let same = ap (λ (s : StoredFiles). s.files) c.self.view_is in
    rw (held_by-text _ _ c.utf8.name, ← same) (rw (c.deref.ensures.value, c.as_bytes.ensures.value) at c.bytes_under.ensures)
