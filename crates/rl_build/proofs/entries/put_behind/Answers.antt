use Rattle.std.proofs.Common.{refl}
use Rattle.rl_build.proofs.entries.put_behind.Goals as goal

pub returns-in-Ok : goal.returns-in-Ok
returns-in-Ok c = c.in-Ok.ensures

pub returns-in-Err : goal.returns-in-Err
returns-in-Err c = refl
