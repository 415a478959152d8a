use Rattle.std.proofs.Common.{◌≡◌, take}
use Rattle.rl_words.specs.Told.{texts}
use Rattle.rl_compile.proofs.program.strs.Given as goal

abbrev pub invariant-loop-word : goal.invariant-loop-word
invariant-loop-word l = texts l.found.items ≡ take l.word-index l.words
