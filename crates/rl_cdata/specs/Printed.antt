-- What is printed is read.
use Rattle.std.specs.Prelude.{◌≡◌, ℕ, List, [], ◌∷◌, ◌++◌, ◌⊎◌, Option, IfSome}
use Rattle.rl_arrays.specs.declared.arrays.Arrays.{Arrays}
use Rattle.rl_cread.specs.Sections.{HasNone, IsRead}

-- the text is empty, or it ends with a newline
abbrev pub EndsLine : List ℕ → Type 0
EndsLine text = (text ≡ []) ⊎ ((front : List ℕ) × (text ≡ front ++ 10 ∷ []))

-- the text is the section of these arrays also between host texts: behind whole lines, of which none begins a section that is
-- sought, and before any text
pub record IsReadBack (text : List ℕ) (a : Arrays) : Type 0 where
  pub between : (machine : Option (List ℕ)) (before behind : List ℕ) → EndsLine before → HasNone machine before
      → IfSome machine (λ name. name ≡ a.name) → IsRead machine (before ++ (text ++ behind)) a
