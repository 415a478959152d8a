-- Lists joined as far as a loop has come.
use Rattle.std.proofs.Common.{◌≡◌, ℕ, ◌+◌, ◌<◌, List, [], ◌∷◌, ◌++◌, map, take, length, get_or, refl, sym, ◌∙◌, ap, append_assoc, append-nil}
use Rattle.std.proofs.lemmas.List.{take_more}
use Rattle.rl_sets.specs.Sets.{joined}

joined_push : {X : Type 0} (xss : List (List X)) (xs : List X) → joined (xss ++ xs ∷ []) ≡ joined xss ++ xs
joined_push [] xs = append-nil xs
joined_push (ys ∷ xss) xs = ap (λ w. ys ++ w) (joined_push xss xs) ∙ sym (append_assoc ys (joined xss) xs)

map_push : {X Y : Type 0} (f : X → Y) (xs : List X) (x : X) → map f (xs ++ x ∷ []) ≡ map f xs ++ f x ∷ []
map_push f [] x = refl
map_push f (y ∷ xs) x = ap (λ w. f y ∷ w) (map_push f xs x)

pub joined_more : {X Y : Type 0} (f : X → List Y) (xs : List X) (k : ℕ) (d : X) → k < length xs → joined (map f (take (k + 1) xs)) ≡ joined (map f (take k xs)) ++ f (get_or xs k d)
joined_more f xs k d h =
    ap (λ w. joined (map f w)) (take_more xs k d h) ∙ ap joined (map_push f (take k xs) (get_or xs k d)) ∙ joined_push (map f (take k xs)) (f (get_or xs k d))

pub ruleset gathers = joined_more
