-- The names of files: what an `include` writes, where it is looked up, and the number of a file.
use Rattle.std.specs.Prelude.{ℕ, ◌-◌, Bool, false, not, ◌==◌, if◌then◌else◌, List, [], ◌∷◌, ◌++◌, length, take, position, unwrap_or}
use Rattle.std.specs.List.{list_any, suffix_len}
use Rattle.std.specs.Str.{bytes_eq}
use Rattle.rl_grammar.specs.Literals.{characters, inside, ends_as_it_begins}

-- a literal without its suffix `i`
abbrev pub unsuffixed : List ℕ → List ℕ
unsuffixed text = if ends_as_it_begins text then text else take (length text - 1) text

-- the name that a literal writes: what its characters are, with or without the suffix
abbrev pub written_name : List ℕ → List ℕ
written_name text = characters false (inside (unsuffixed text))

abbrev pub is_no_slash : ℕ → Bool
is_no_slash b = not (b == 47)

-- the folder of a file: its name up to its last `/`
abbrev pub folder : List ℕ → List ℕ
folder name = take (length name - suffix_len is_no_slash name) name

abbrev pub is_rooted : List ℕ → Bool
is_rooted [] = false
is_rooted (b ∷ bs) = b == 47

-- a name in a file is looked up in the folder of that file, unless it begins with `/`
abbrev pub looked_up : List ℕ → List ℕ → List ℕ
looked_up including name = if is_rooted name then name else folder including ++ name

-- the number of a file: its place among those that were read, or the next one
abbrev pub file_number : List (List ℕ) → List ℕ → ℕ
file_number files name = unwrap_or (position (λ file. bytes_eq file name) files) (length files)

abbrev pub is_among : List (List ℕ) → List ℕ → Bool
is_among files name = list_any (λ file. bytes_eq file name) files

-- a file that is read again keeps its number
abbrev pub with_file : List (List ℕ) → List ℕ → List (List ℕ)
with_file files name = if is_among files name then files else files ++ name ∷ []
