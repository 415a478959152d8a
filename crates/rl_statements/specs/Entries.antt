-- Tables of the names of entries.
use Rattle.std.specs.Prelude.{ℕ, List, map}
use Rattle.indexmap.specs.IndexSet.{IndexSet}
use denote.Ref.{Bor}

abbrev pub Text : Type 0
Text = Bor (List ℕ)

-- the names of a table, in order
abbrev pub texts : {S : Type 0} → IndexSet Text S → List (List ℕ)
texts table = map (λ k. k.now) table.keys
