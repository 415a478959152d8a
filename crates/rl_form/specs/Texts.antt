-- Sets of texts, as they are kept.
use Rattle.std.specs.Prelude.{ℕ, List, map}
use Rattle.indexmap.specs.IndexSet.{IndexSet}
use denote.Ref.{Bor}

abbrev pub Text : Type 0
Text = Bor (List ℕ)

-- the texts of a set, in order
abbrev pub texts : {S : Type 0} → IndexSet Text S → List (List ℕ)
texts set = map (λ k. k.now) set.keys
