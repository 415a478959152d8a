-- Which node of a specification is refused, and where it stands.
use Rattle.std.specs.Prelude.{◌≡◌, ℕ, ◌-◌, nat_lt, List, [], ◌∷◌, length, Option, Some, None, slice_get, if◌then◌else◌}
use Rattle.std.specs.Option.{option_map}
use Rattle.rl_types.specs.declared.numbers.Place.{Place}
use Rattle.rl_automata.specs.Refused.{Cause, L6, L8, F15, F12, IsRefusal, AreBuildable}
use Rattle.rl_model.specs.declared.spec.Pattern as rust
use Rattle.rl_model.specs.declared.spec.Root as rust_root
use Rattle.rl_model.specs.declared.spec.Root.TheVariants as R
use Rattle.rl_model.specs.declared.spec.Entry as rust_entry
use Rattle.rl_model.specs.declared.spec.Spec.{Spec}
use Rattle.rl_model.specs.Specification.{specification_of, roots_of}

abbrev pub pattern_place : rust_root.Root → ℕ → Option Place
pattern_place (R.Plain t) j = None
pattern_place (R.Scanner ps) j = option_map (λ (p : rust.Pattern). p.place) (slice_get ps j)

-- a pattern that matches the empty word is refused at its own place, and every other node at its first token
abbrev pub cause_place : rust_entry.Entry → ℕ → Cause → Option Place
cause_place e i (F12 j) = pattern_place e.root j
cause_place e i L6 = slice_get e.places i
cause_place e i L8 = slice_get e.places i
cause_place e i F15 = slice_get e.places i

-- the place of the i-th node, from 0, of entries one after the other
abbrev pub place_at : List rust_entry.Entry → ℕ → Cause → Option Place
place_at [] i cause = None
place_at (e ∷ es) i cause = if nat_lt i (length e.places) then cause_place e i cause else place_at es (i - length e.places) cause

-- the first node that is refused, in post-order and one entry after the other, is refused for this cause at this place
abbrev pub IsRefusedAt : Spec → Cause → Place → Type 0
IsRefusedAt spec cause place = (i : ℕ) × IsRefusal spec.alphabet (roots_of (specification_of spec)) i cause × (place_at spec.entries i cause ≡ Some place)

-- no node is refused
abbrev pub IsBuildable : Spec → Type 0
IsBuildable spec = AreBuildable spec.alphabet (roots_of (specification_of spec))
