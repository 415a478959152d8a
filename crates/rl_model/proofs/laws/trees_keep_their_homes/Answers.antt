use Rattle.std.proofs.Common.{length}
use Rattle.rl_model.specs.Trees.{ConfAt, part_of, context_of}
use Rattle.rl_model.proofs.PartTwins.{machine_reached}
use Rattle.rl_model.proofs.laws.trees_keep_their_homes.Goals as goal

pub returns : goal.returns
returns c = λ spec tests. machine_reached (ConfAt spec) (part_of spec tests) (length spec.entries) (context_of spec)
