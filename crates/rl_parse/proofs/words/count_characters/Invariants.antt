use Rattle.std.proofs.Common.{◌≡◌, length, false, ◌+◌, ◌≤◌, drop}
use Rattle.rl_grammar.specs.Literals.{characters}
use Rattle.rl_parse.proofs.words.count_characters.Given as goal

abbrev pub invariant-loop-at : goal.invariant-loop-at
invariant-loop-at l = (length (characters false l.body) ≡ l.count + length (characters l.slash (drop l.at l.body))) × (l.count ≤ l.at)
