use Rattle.std.proofs.Common.{rules}
use Rattle.rl_io.proofs.Files.{PutsFile-set, PutsFile-append}
use Rattle.rl_io.proofs.mem_store.put_file.Goals as goal

pub returns-in-Some-clause-ok : goal.returns-in-Some-clause-ok
returns-in-Some-clause-ok c =
    PutsFile-set _ _ _ _ _ _ (search rules) c.index_mut-file.ensures.value (search rules)

pub returns-in_ok-push-in-None-clause-ok : goal.returns-in_ok-push-in-None-clause-ok
returns-in_ok-push-in-None-clause-ok c =
    PutsFile-append _ _ c.new-name.result _ _ c.in_ok-bytes.bytes (search rules) (search rules) (search rules) (search rules)
