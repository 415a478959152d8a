use Rattle.std.proofs.Common.{rules, arith}
use Rattle.std.proofs.lemmas.Map.Made.{AllPairs-from_IsDistinct}
use Rattle.std.proofs.lemmas.Bool.Decides.{Decides-eqb}
use Rattle.rl_classes.proofs.ClassLaws.{needed_room}
use Rattle.rl_classes.proofs.classes.class_of_number.Goals as goal

pub returns-in-Ok-clause-distinct : goal.returns-in-Ok-clause-distinct
returns-in-Ok-clause-distinct c = AllPairs-from_IsDistinct Decides-eqb _ c.in-Ok.ensures.unique

pub returns-in-Ok-clause-needed : goal.returns-in-Ok-clause-needed
returns-in-Ok-clause-needed c = rw (c.in-Ok.ensures.keys, c.in-Ok.ensures.index) (needed_room c.args.table.now.keys c.args.number)
