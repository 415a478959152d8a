use Rattle.rl_ops.proofs.CauseLaws.{union_causes, and_causes, minus_causes, cat_causes, star_causes}
use Rattle.rl_ops.proofs.laws.causes_are_the_nodes.Goals as goal

pub returns-clause-union : goal.returns-clause-union
returns-clause-union c = union_causes

pub returns-clause-intersection : goal.returns-clause-intersection
returns-clause-intersection c = and_causes

pub returns-clause-difference : goal.returns-clause-difference
returns-clause-difference c = minus_causes

pub returns-clause-concatenation : goal.returns-clause-concatenation
returns-clause-concatenation c = cat_causes

pub returns-clause-repetition : goal.returns-clause-repetition
returns-clause-repetition c = star_causes
