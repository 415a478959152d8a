-- The names of sessions, as they are kept.
use Rattle.std.specs.Prelude.{ℕ, List, map, Vec}
use Rattle.indexmap.specs.IndexSet.{IndexSet}

-- the names of a roll, in the order in which they were put in
abbrev pub names_on : {A S : Type 0} → IndexSet (Vec ℕ A) S → List (List ℕ)
names_on roll = map (λ v. v.items) roll.keys
