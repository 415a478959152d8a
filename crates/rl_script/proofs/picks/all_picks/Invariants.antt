use Rattle.std.proofs.Common.{◌≡◌, ◌++◌, length, option_map}
use Rattle.rl_replay.specs.Script.{each_of, pick_in}
use Rattle.rl_script.specs.Parts.{parts_at}
use Rattle.rl_script.proofs.picks.all_picks.Given as goal

-- the picks so far, and what is left of the text
abbrev pub invariant-items : goal.invariant-items
invariant-items l =
    option_map (λ ys. l.picks ++ ys) (each_of (λ item. pick_in (parts_at 61 item)) (parts_at 44 l.rest)) ≡ each_of (λ item. pick_in (parts_at 61 item)) (parts_at 44 l.word)

abbrev pub decreases-items : goal.decreases-items
decreases-items l = length l.rest
