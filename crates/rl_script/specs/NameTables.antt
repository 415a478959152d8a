-- Tables of names, and of calls.
use Rattle.std.specs.Prelude.{◌≡◌, ℕ, Bool, false, ◌&&◌, ◌||◌, ◌==◌, List}
use Rattle.std.specs.List.{list_any}
use Rattle.std.specs.Str.{bytes_eq}
use Rattle.indexmap.specs.IndexSet.{IndexSet}
use Rattle.rl_replay.specs.declared.script.Event.{Event}
use Rattle.rl_replay.specs.declared.script.Event.TheVariants.{Open}
use denote.Ref.{Bor}

abbrev pub Text : Type 0
Text = Bor (List ℕ)

-- a name is in a table
abbrev pub has : {S : Type 0} → IndexSet Text S → List ℕ → Bool
has table name = list_any (λ (key : Text). bytes_eq name key.now) table.keys

-- a call: of a session, by its name and its number
abbrev pub Called : Type 0
Called = Text × Text × ℕ

-- a call is in a table
abbrev pub has_call : {S : Type 0} → IndexSet Called S → List ℕ → List ℕ → ℕ → Bool
has_call table s name n = list_any (λ (key : Called). bytes_eq s key.0.now && bytes_eq name key.1.now && n == key.2) table.keys

-- a table with one more
abbrev pub Adds : {S : Type 0} → IndexSet Text S → List ℕ → IndexSet Text S → Type 0
Adds old name new = (other : List ℕ) → has new other ≡ (has old other || bytes_eq other name)

abbrev pub AddsCall : {S : Type 0} → IndexSet Called S → List ℕ → List ℕ → ℕ → IndexSet Called S → Type 0
AddsCall old s name n new =
    (t other : List ℕ) (k : ℕ) → has_call new t other k ≡ (has_call old t other k || (bytes_eq t s && bytes_eq other name && k == n))

-- an event opens a session
abbrev pub opens : List ℕ → Event → Bool
opens s (Open t entry) = bytes_eq s t
opens s _ = false
