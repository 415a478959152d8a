-- What a store, a source and a sink in memory are: the bytes that they hold, and the calls at which they fail.
use Rattle.std.specs.Prelude.{◌≡◌, ◌≢◌, ℕ, ◌↔◌, List, [], ◌∷◌, map, All, AllPairs, Contains, Vec, IsUtf8, true, false, cond, refl, Option, Some, None, if◌then◌else◌}
use Rattle.std.specs.Str.{bytes_eq, is_utf8}
use Rattle.std.proofs.lemmas.Str.{IsUtf8-from_is_utf8}
use Rattle.std.specs.declared.alloc.Global.{Global}
use Rattle.rl_io.specs.Outside.{next_number}

-- the numbers of the calls that fail, from 1; how many calls were made; how many of them failed
pub record CallsMade : Type 0 where
  pub fails : List ℕ
  pub made : ℕ
  pub faults : ℕ

-- before the first call
abbrev pub no_calls : List ℕ → CallsMade
no_calls fails = record { fails = fails; made = 0; faults = 0 }

-- one more call was made; it failed exactly where its number is among those that fail
pub record CountsCall (old new : CallsMade) (Fails : Type 0) : Type 0 where
  pub number : new.made ≡ next_number old.made
  pub exactly : Fails ↔ Contains old.fails new.made
  pub risen : Fails → new.faults ≡ next_number old.faults
  pub fails : new.fails ≡ old.fails

-- a name with its bytes
pub record StoredFile : Type 0 where
  pub name : List ℕ
  pub bytes : List ℕ

-- the files of a store in memory, in order
abbrev pub file_of : List ℕ × Vec ℕ Global → StoredFile
file_of file = record { name = file.0; bytes = file.1.items }

abbrev pub files_of : List (List ℕ × Vec ℕ Global) → List StoredFile
files_of = map file_of

-- a store in memory
pub record StoredFiles : Type 0 where
  pub files : List StoredFile
  pub calls : CallsMade

-- a source in memory: the bytes that are left, and how many come at once
pub record LeftBytes : Type 0 where
  pub left : List ℕ
  pub chunk : ℕ
  pub calls : CallsMade

-- a sink in memory
pub record WrittenBytes : Type 0 where
  pub bytes : List ℕ
  pub calls : CallsMade

-- the bytes of the first file of a name
abbrev pub find_bytes : List StoredFile → List ℕ → Option (List ℕ)
find_bytes [] name = None
find_bytes (file ∷ files) name = if bytes_eq file.name name then Some file.bytes else find_bytes files name

-- the name has these bytes now, and every other name what it had
pub record PutsFile (old new : List StoredFile) (name bytes : List ℕ) : Type 0 where
  pub put : find_bytes new name ≡ Some bytes
  pub others : (other : List ℕ) → other ≢ name → find_bytes new other ≡ find_bytes old other

-- what a store in memory holds under each name; only texts are names
abbrev pub held_by : List StoredFile → List ℕ → Option (List ℕ)
held_by files name = if is_utf8 name then find_bytes files name else None

-- no two files have one name
abbrev pub NamesDiffer : List StoredFile → Type 0
NamesDiffer files = AllPairs (λ one other. one.name ≢ other.name) files

-- the names are UTF-8
abbrev pub NamesAreText : List StoredFile → Type 0
NamesAreText files = All (λ file. IsUtf8 file.name) files

-- the map holds these files, each under its name, and no others
pub record HoldsFiles (files : List StoredFile) (held : List ℕ → Option (List ℕ)) : Type 0 where
  pub each : (name bytes : List ℕ) → Contains files (record { name = name; bytes = bytes }) → held name ≡ Some bytes
  pub only : (name bytes : List ℕ) → held name ≡ Some bytes → Contains files (record { name = name; bytes = bytes })

-- a name that is no text is not held
pub held_by-no_text : (files : List StoredFile) (name : List ℕ) → ¬ (IsUtf8 name) → held_by files name ≡ None
held_by-no_text files name no_text =
    elim (is_utf8 name) as (λ text. is_utf8 name ≡ text → cond text (find_bytes files name) None ≡ None) [
      | true ↦ λ e. absurd (no_text (IsUtf8-from_is_utf8 name e))
      | false ↦ λ _. refl
    ] refl
