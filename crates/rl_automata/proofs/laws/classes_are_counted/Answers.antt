use Rattle.rl_automata.proofs.ClassLaws.{class_count_of}
use Rattle.rl_automata.proofs.laws.classes_are_counted.Goals as goal

pub returns : goal.returns
returns c = class_count_of
