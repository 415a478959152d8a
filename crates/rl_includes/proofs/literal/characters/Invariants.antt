use Rattle.std.proofs.Common.{◌≡◌, ◌++◌, false, drop}
use Rattle.rl_grammar.specs.Literals.{characters}
use Rattle.rl_includes.proofs.literal.characters.Given as goal

abbrev pub invariant-loop-byte : goal.invariant-loop-byte
invariant-loop-byte l = l.found ++ characters l.slash (drop l.byte-index l.bytes) ≡ characters false l.bytes
