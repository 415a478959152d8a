-- What references point to.
use Rattle.std.specs.Prelude.{List, map}
use denote.Ref.{Bor}

abbrev pub told : {X : Type 0} → List (Bor X) → List X
told xs = map (λ x. x.now) xs
