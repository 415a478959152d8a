use Rattle.std.proofs.Common.{◌≡◌, ◌∷◌, take}
use Rattle.rl_certificate.proofs.lists.led_by.Given as goal

-- the letter, and those that were copied
abbrev pub invariant-loop-letter : goal.invariant-loop-letter
invariant-loop-letter l = l.led.items ≡ l.fn.first ∷ take l.letter-index l.word
