-- Numbers in decimal.
use Rattle.std.proofs.Common.{◌≡◌, ℕ, ◌+◌, ◌-◌, ◌*◌, ◌<◌, ◌≤◌, List, [], ◌∷◌, fold, length, drop, get_or, arith}
use Rattle.std.proofs.lemmas.List.{at_drop_more}
use Rattle.rl_replay.specs.Script.{value_of}

-- the value of digits behind a number
abbrev pub value_behind : ℕ → List ℕ → ℕ
value_behind n word = fold (λ n digit. n * 10 + (digit - 48)) n word

grows : (n : ℕ) (word : List ℕ) → n ≤ value_behind n word
grows n [] = omega arith
grows n (digit ∷ word) = omega (arith, grows (n * 10 + (digit - 48)) word)

-- digits that are too many already
pub too_many : (word : List ℕ) (n i most : ℕ) → i < length word → value_behind n (drop i word) ≡ value_of word → most ≤ n * 10 + (get_or word i 0 - 48) → most ≤ value_of word
too_many word n i most below e h =
    let first : value_behind n (drop i word) ≡ value_behind (n * 10 + (get_or word i 0 - 48)) (drop (i + 1) word) = at_drop_more (value_behind n) word i 0 below in
    omega (arith, grows (n * 10 + (get_or word i 0 - 48)) (drop (i + 1) word))
