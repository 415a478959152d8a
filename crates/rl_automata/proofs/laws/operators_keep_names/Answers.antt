use Rattle.rl_automata.proofs.Keeps.{union_keeps, and_keeps, minus_keeps, cat_keeps, star_keeps, enter_keeps, finish_keeps, every_keeps, leave_keeps, mark_keeps, when_keeps}
use Rattle.rl_automata.proofs.laws.operators_keep_names.Goals as goal

pub returns-clause-union : goal.returns-clause-union
returns-clause-union c = union_keeps

pub returns-clause-intersection : goal.returns-clause-intersection
returns-clause-intersection c = and_keeps

pub returns-clause-difference : goal.returns-clause-difference
returns-clause-difference c = minus_keeps

pub returns-clause-concatenation : goal.returns-clause-concatenation
returns-clause-concatenation c = cat_keeps

pub returns-clause-repetition : goal.returns-clause-repetition
returns-clause-repetition c = star_keeps

pub returns-clause-entering : goal.returns-clause-entering
returns-clause-entering c = enter_keeps

pub returns-clause-finishing : goal.returns-clause-finishing
returns-clause-finishing c = finish_keeps

pub returns-clause-every_step : goal.returns-clause-every_step
returns-clause-every_step c = every_keeps

pub returns-clause-leaving : goal.returns-clause-leaving
returns-clause-leaving c = leave_keeps

pub returns-clause-marks : goal.returns-clause-marks
returns-clause-marks c = mark_keeps

pub returns-clause-conditions : goal.returns-clause-conditions
returns-clause-conditions c = when_keeps
