use Rattle.std.proofs.Common.{◌≡◌, take}
use Rattle.rl_words.specs.Told.{texts}
use Rattle.ragel_run.proofs.words.words_of.Given as goal

abbrev pub invariant-loop-word : goal.invariant-loop-word
invariant-loop-word l = texts l.all.items ≡ take l.word-index l.words
