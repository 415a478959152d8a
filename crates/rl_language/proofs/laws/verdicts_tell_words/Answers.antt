use Rattle.std.specs.Prelude.{IsTrue}
use Rattle.rl_model.specs.Specification.{roots_of}
use Rattle.rl_model.specs.Trees.{root_at, tree_machine}
use Rattle.rl_language.proofs.TreeWords.{tree_tells, same_tell}
use Rattle.rl_language.proofs.UnaskedWords.{spec_tells}
use Rattle.rl_language.proofs.laws.verdicts_tell_words.Goals as goal

pub returns-clause-trees : goal.returns-clause-trees
returns-clause-trees c = tree_tells

pub returns-clause-alike : goal.returns-clause-alike
returns-clause-alike c spec tests m rename stands honest quiet e from up plain same width keys =
    same_tell (tree_machine spec tests) m rename (λ q p. IsTrue (stands q p)) same width keys e (root_at (roots_of spec) e) (tree_tells spec tests honest quiet e from up plain)

pub returns-clause-unasked : goal.returns-clause-unasked
returns-clause-unasked c = spec_tells
