use Rattle.std.proofs.Common.{◌≡◌, ◌++◌, length, option_map}
use Rattle.rl_replay.specs.Script.{plain, unquoted}
use Rattle.rl_script.proofs.quoted.push_unquoted.Given as goal

-- the bytes so far, and what is left of the text
abbrev pub invariant-quoted : goal.invariant-quoted
invariant-quoted l =
    option_map (λ x. l.bytes.items ++ x) (unquoted plain l.rest) ≡ option_map (λ x. l.fn.bytes.items ++ x) (unquoted plain l.text)

abbrev pub decreases-quoted : goal.decreases-quoted
decreases-quoted l = length l.rest
