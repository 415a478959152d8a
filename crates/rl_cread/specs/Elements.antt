-- Elements of an array's line, each behind a blank.
use Rattle.std.specs.Prelude.{ℕ, ℤ, List, ◌∷◌, ◌++◌, codes}
use Rattle.std.specs.Fmt.{signed_decimal}
use Rattle.rl_arrays.specs.Section.{quoted}

abbrev pub spaced_number : ℤ → List ℕ
spaced_number n = 32 ∷ signed_decimal n

abbrev pub spaced_name : List ℕ → List ℕ
spaced_name name = 32 ∷ quoted name

-- the line of an entry: what stands before its name, and from its name on
abbrev pub entry_front : List ℕ → List ℕ
entry_front name = codes "static const int " ++ (name ++ codes "_en_")

abbrev pub entry_text : List ℕ → ℤ → List ℕ
entry_text word n = word ++ (codes " = " ++ (signed_decimal n ++ codes ";"))
