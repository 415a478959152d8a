-- The machine that arrays stand for: its look-ups. Elements that are missing are read as 0, so that each look-up has an answer.
use Rattle.std.specs.Prelude.{ℕ, ◌+◌, ◌*◌, ◌==◌, not, ◌&&◌, ℤ, pos, List, [], ◌∷◌, Option, Some, None, slice_get, take, drop, unwrap_or, option_and_then, int_le, bit_and, if◌then◌else◌}
use Rattle.std.specs.Option.{option_map, option_map_or, option_or}
use Rattle.std.specs.List.{filter, position}
use Rattle.std.specs.Ordering.{int_eq}
use Rattle.rl_types.specs.Alphabet.{width_of, key_of}
use Rattle.rl_types.specs.declared.alphabet.Alphabet.{Alphabet}
use Rattle.rl_types.specs.declared.alphabet.Alphabet.TheVariants.{Char}
use Rattle.rl_run.specs.Machine.{Go, Machine}
use Rattle.rl_arrays.specs.declared.arrays.Arrays.{Arrays}
use Rattle.rl_arrays.specs.Words.{number_at}
use Rattle.rl_arrays.specs.Lists.{members}
use Rattle.rl_arrays.specs.Sizes.{shares}
use Rattle.rl_arrays.specs.KeyRules.{alphabet_of}
use Rattle.rl_arrays.specs.Statements.{statement}

-- the number of the first range, of lows and highs in turn, that holds the key
abbrev pub range_of : ℤ → List ℤ → Option ℕ
range_of key [] = None
range_of key (low ∷ []) = None
range_of key (low ∷ high ∷ ends) = if int_le low key && int_le key high then Some 0 else option_map (λ r. r + 1) (range_of key ends)

-- the single keys of a state, and the ends of its ranges
abbrev pub single_keys : Arrays → ℕ → List ℤ
single_keys a s = take (number_at a.single_lengths s) (drop (number_at a.key_offsets s) a.trans_keys)

abbrev pub range_ends : Arrays → ℕ → List ℤ
range_ends a s = take (2 * number_at a.range_lengths s) (drop (number_at a.key_offsets s + number_at a.single_lengths s) a.trans_keys)

-- among the cells that a state uses, that of a key: its single keys have the first ones, its ranges the others
abbrev pub cell_within : Arrays → ℕ → ℤ → Option ℕ
cell_within a s key =
    option_or (position (int_eq key) (single_keys a s)) (option_map (λ r. number_at a.single_lengths s + r) (range_of key (range_ends a s)))

-- the cell of a use
abbrev pub cell_used : Arrays → ℕ → ℕ
cell_used a place = if shares a then number_at a.cell_uses place else place

-- the cell of a key in a state, if it has one
abbrev pub cell_of : Arrays → ℕ → ℤ → Option ℕ
cell_of a s key = option_map (λ c. cell_used a (number_at a.cell_offsets s + c)) (cell_within a s key)

-- the conditions that a cell asks, in ascending order, each as 2 to its number less 1
abbrev pub asked_bits : ℕ → List ℕ
asked_bits asks = filter (λ bit. not (bit_and asks bit == 0)) (1 ∷ 2 ∷ 4 ∷ 8 ∷ 16 ∷ 32 ∷ 64 ∷ 128 ∷ [])

-- the number of the entry in which exactly those of the asked conditions hold: bit r for the r-th of them, from 0
abbrev pub entry_number : List ℕ → ℕ → ℕ
entry_number [] hold = 0
entry_number (bit ∷ bits) hold = (if bit_and hold bit == 0 then 0 else 1) + 2 * entry_number bits hold

-- the step of an entry, if it has one
abbrev pub step_of : Arrays → ℕ → Option (Go ℕ)
step_of a e = let target = number_at a.trans_targs e in
    if target == 0 then None else Some (record { target = target; list = members a.actions (number_at a.trans_lists e) })

abbrev pub asked : Arrays → ℕ → ℤ → ℕ
asked a s key = option_map_or (λ c. number_at a.cell_asks c) (cell_of a s key) 0

-- the entry of a key in a state, where these conditions hold
abbrev pub entry_of : Arrays → ℕ → ℤ → ℕ → Option ℕ
entry_of a s key hold = option_map (λ c. number_at a.cell_entries c + entry_number (asked_bits (number_at a.cell_asks c)) hold) (cell_of a s key)

abbrev pub find : Arrays → ℕ → ℤ → ℕ → Option (Go ℕ)
find a s key hold = option_and_then (step_of a) (entry_of a s key hold)

-- the members of the list whose number an array has for a state
abbrev pub list_of : Arrays → List ℤ → ℕ → List ℕ
list_of a numbers s = members a.actions (number_at numbers s)

abbrev pub name_at : List (List ℕ) → ℕ → List ℕ
name_at names i = unwrap_or (slice_get names i) []

-- the alphabet
abbrev pub letters : Arrays → Alphabet
letters a = unwrap_or (alphabet_of a.alphabet) Char

unfoldable pub machine : Arrays → Machine ℕ
machine a = record {
  width = width_of (letters a);
  key_of = key_of (letters a);
  asked = λ s key. asked a s key.0;
  find = λ s key hold. find a s key.0 hold;
  from = list_of a a.from_lists;
  to = list_of a a.to_lists;
  error = list_of a a.error_lists;
  eof = list_of a a.eof_lists;
  token = list_of a a.accept_lists;
  kind = number_at a.state_kinds;
  final = λ s. int_le a.first_final (pos s);
  home = number_at a.homes;
  failed = 0;
  is_failed = λ s. s == 0;
  entry = number_at a.entry_states;
  statement = statement a;
  action_name = name_at a.action_names;
  condition_name = name_at a.cond_names;
  entry_name = name_at a.entry_names;
}
