-- Lists made one element after another.
use Rattle.std.proofs.Common.{◌<◌, length, take, get_or, ◌≡◌, ℕ, ◌+◌, List, [], ◌∷◌, ◌++◌, map, arith, append_assoc}
use Rattle.std.specs.List.{range_with_len}
use Rattle.std.proofs.lemmas.List.{map-append, take_more}
use Rattle.std.proofs.lemmas.List.FromFn.{map-range_with_len_more}

pub made_more : {X : Type 0} → (f : ℕ → X) (old so_far more : List X) (j : ℕ) (x : X) → so_far ≡ old ++ map f (range_with_len 0 j) → more ≡ so_far ++ x ∷ [] → x ≡ f j → more ≡ old ++ map f (range_with_len 0 (j + 1))
made_more f old so_far more j x before is at = rw (map-range_with_len_more f 0 j j (omega arith), is, before, at) (append_assoc old (map f (range_with_len 0 j)) (f j ∷ []))

pub taken_more : {X Y : Type 0} → (f : X → Y) (old so_far more : List Y) (xs : List X) (i : ℕ) (d : X) (y : Y) → i < length xs → so_far ≡ old ++ map f (take i xs) → more ≡ so_far ++ y ∷ [] → y ≡ f (get_or xs i d) → more ≡ old ++ map f (take (i + 1) xs)
taken_more f old so_far more xs i d y lt before is at = rw (take_more xs i d lt, map-append f (take i xs) (get_or xs i d ∷ []), is, before, at) (append_assoc old (map f (take i xs)) (f (get_or xs i d) ∷ []))
