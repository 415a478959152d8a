use Rattle.std.proofs.Common.{rules}
use Rattle.rl_io.proofs.Files.{find_bytes-Some, find_bytes-None}
use Rattle.rl_io.proofs.mem_store.bytes_under.Goals as goal

pub returns-in-Some : goal.returns-in-Some
returns-in-Some c =
    rw c.as_slice.ensures.value (find_bytes-Some c.args.files.now c.in-Some.at c.index-files-at.result c.args.name.now (search rules))

pub returns-in-None : goal.returns-in-None
returns-in-None c = find_bytes-None c.args.files.now c.args.name.now (search rules)
