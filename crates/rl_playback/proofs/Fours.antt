-- The first four of a list.
use Rattle.std.proofs.Common.{◌≡◌, List, [], ◌∷◌, map, refl}
use Rattle.std.specs.Prelude.{slice_get}
use Rattle.std.specs.Option.{option_map}
use Rattle.rl_run.specs.declared.calls.Pick.{Pick}
use Rattle.rl_replay.specs.Host.{four}

pub four_of : {A : Type 0} (f : A → Pick) (xs : List A) →
    option_map f (slice_get xs 0) ∷ option_map f (slice_get xs 1) ∷ option_map f (slice_get xs 2) ∷ option_map f (slice_get xs 3) ∷ [] ≡ four (map f xs)
four_of f [] = refl
four_of f (a ∷ []) = refl
four_of f (a ∷ b ∷ []) = refl
four_of f (a ∷ b ∷ c ∷ []) = refl
four_of f (a ∷ b ∷ c ∷ d ∷ xs) = refl
