use Rattle.std.proofs.Common.{map}
use Rattle.std.specs.Option.{option_copied}
use Rattle.rl_cread.proofs.Marking.{none_at, section_option}
use Rattle.rl_cread.proofs.texts.section_at.Goals as goal

pub returns-in-None : goal.returns-in-None
returns-in-None c = none_at _ _ c.args.i c.in-None.ensures

pub returns-in-Some : goal.returns-in-Some
returns-in-Some c = section_option (option_copied c.args.machine) (map (λ l. l.now) c.args.lines.now) c.args.i c.in-Some.line.now c.sought_in.result c.in-Some.ensures c.sought_in.ensures
