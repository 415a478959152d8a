use Rattle.std.proofs.Common.{◌≡◌, ◌++◌, drop}
use Rattle.rl_certificate.specs.Texts.{word_text}
use Rattle.rl_certificate.proofs.text.push_letters.Given as goal

-- what is there, and the letters that are left
abbrev pub invariant-loop-letter : goal.invariant-loop-letter
invariant-loop-letter l = l.text.items ++ word_text (drop l.letter-index l.word) ≡ l.initial.text.items ++ word_text l.word
