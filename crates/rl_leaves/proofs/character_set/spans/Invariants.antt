use Rattle.std.proofs.Common.{◌≡◌, ◌++◌, length}
use Rattle.rl_leaves.specs.CharacterSets.{spans}
use Rattle.rl_leaves.proofs.character_set.spans.Given as goal

abbrev pub invariant-spans : goal.invariant-spans
invariant-spans l = l.found ++ spans l.rest ≡ spans l.characters

abbrev pub decreases-spans : goal.decreases-spans
decreases-spans l = length l.rest
