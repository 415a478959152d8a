use Rattle.rl_cread.proofs.SectionLaws.{reads_versioned}
use Rattle.rl_cread.proofs.read.tables_at.Goals as goal

pub tables_of-requires : goal.tables_of-requires
tables_of-requires c = reads_versioned c.in-Ok.ensures.found
