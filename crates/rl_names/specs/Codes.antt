-- What is asked of an action's code: where its words stand, how many statements it has at the outer level, and which entries
-- it names.
use Rattle.std.specs.Prelude.{ℕ, Bool, false, not, nat_lt, if◌then◌else◌, List, [], ◌∷◌, take, Option, Some, None, is_some}
use Rattle.std.specs.List.{list_any}
use Rattle.std.specs.Option.{option_map, option_map_or}
use Rattle.rl_types.specs.declared.faults.FaultKind.TheVariants.{F13, F16}
use Rattle.rl_types.specs.declared.faults.LimitKind.TheVariants.{L10}
use Rattle.rl_types.specs.declared.numbers.Place.{Place}
use Rattle.rl_grammar.specs.declared.read_fault.ReadFault.{ReadFault}
use Rattle.rl_grammar.specs.declared.read_fault.ReadFault.TheVariants as reason
use Rattle.rl_grammar.specs.declared.syntax.Word.{Word}
use Rattle.rl_lexical.specs.Places.{position_behind}
use Rattle.rl_code.specs.declared.said.Said.{Said}
use Rattle.rl_code.specs.Reading.{control_of, entry_of, first_misplaced, fifth_outer}
use Rattle.rl_code.specs.Sayings.{sayings}
use Rattle.rl_names.specs.Leaves.{fault_at}

-- the place behind a text
abbrev pub place_behind_text : Place → List ℕ → Place
place_behind_text place text = (position_behind (record { from = 0; place = place }) text).place

-- where a word of code stands that so many bytes of the code are before
abbrev pub place_in : Word → ℕ → Place
place_in w from = place_behind_text w.place (take from w.text)

-- ---- statements

abbrev pub is_control : Said → Bool
is_control s = is_some (control_of s)

-- a code has a control statement
abbrev pub has_statements : List ℕ → Bool
has_statements code = list_any is_control (sayings code)

-- ---- words that stand where they may not, and statements that are too many

abbrev pub misplaced : Word → ℕ → ReadFault
misplaced w from = fault_at F13 (place_in w from)

abbrev pub one_outer_too_many : Word → ℕ → ReadFault
one_outer_too_many w from = reason.Limit (record { kind = L10; place = place_in w from })

-- the one that stands first
abbrev pub first_of_both : Word → Option ℕ → Option ℕ → Option ReadFault
first_of_both w None fifth = option_map (one_outer_too_many w) fifth
first_of_both w (Some from) None = Some (misplaced w from)
first_of_both w (Some from) (Some fifth) = Some (if nat_lt fifth from then one_outer_too_many w fifth else misplaced w from)

-- The first word of a code that is misplaced, or the fifth statement at the outer level, whichever stands first.
abbrev pub code_fault : Word → Option ReadFault
code_fault w = first_of_both w (first_misplaced (sayings w.text)) (fifth_outer (sayings w.text))

-- ---- entries

-- it names an entry, but none that is there
abbrev pub is_unnamed : (List ℕ → Bool) → Said → Bool
is_unnamed has s = option_map_or (λ name. not (has name)) (entry_of s) false

-- how many bytes stand before the first word that names no entry that is there
abbrev pub first_unnamed : (List ℕ → Bool) → List Said → Option ℕ
first_unnamed has [] = None
first_unnamed has (s ∷ ss) = if is_unnamed has s then Some s.from else first_unnamed has ss

abbrev pub unnamed : Word → ℕ → ReadFault
unnamed w from = fault_at F16 (place_in w from)

-- the first word of a code that names no entry that is there
abbrev pub entry_fault : (List ℕ → Bool) → Word → Option ReadFault
entry_fault has w = option_map (unnamed w) (first_unnamed has (sayings w.text))
