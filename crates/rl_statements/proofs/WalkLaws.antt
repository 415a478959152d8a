-- What is put at the end of what is found.
use Rattle.std.proofs.Common.{◌≡◌, List, [], ◌∷◌, ◌++◌, Option, Some, None, append_assoc}
use Rattle.std.specs.List.{cons_option}

-- what is found, with what is said here, and then the rest
pub put_behind : {A : Type 0} (found rest : List A) (said : Option A) → (found ++ cons_option said []) ++ rest ≡ found ++ cons_option said rest
put_behind found rest None = append_assoc found [] rest
put_behind found rest (Some s) = append_assoc found (s ∷ []) rest
