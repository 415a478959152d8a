-- The picks of an answer.
use Rattle.std.proofs.Common.{◌≡◌, ℕ, ◌==◌, nat_le, nat_lt, List, ◌∷◌, length, None, sym, ap, arith}
use Rattle.std.proofs.lemmas.Bool.Decides.{nat_tests}
use Rattle.std.proofs.lemmas.List.Splits.{length-slice_split}
use Rattle.std.specs.List.{count_by}
use Rattle.rl_replay.specs.Script.{pick_in}
use Rattle.rl_script.specs.Parts.{parts_at}
use Rattle.rl_script.proofs.PartLaws.{two_parts}

-- ---- a pick
pub many_goals : (number goal before behind : List ℕ) → parts_at 61 goal ≡ before ∷ parts_at 61 behind → None ≡ pick_in (number ∷ parts_at 61 goal)
many_goals number goal before behind e = let (second, more, f) = two_parts 61 goal before behind e in sym (ap (λ parts. pick_in (number ∷ parts)) f)

-- ---- how many
pub four_items : (word : List ℕ) (n : ℕ) → n ≡ count_by (λ b. b == 44) word → nat_lt n 4 ≡ nat_le (length (parts_at 44 word)) 4
four_items word n e = grind (arith, nat_tests, length-slice_split (λ b. b == 44) word)
