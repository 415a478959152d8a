use Rattle.rl_arrays.proofs.Order.{all_sound}
use Rattle.rl_tables.proofs.check.check.Goals as goal

pub returns : goal.returns
returns c = all_sound _ c.in_ok-check_version.ensures c.in_ok-check_entries.ensures
