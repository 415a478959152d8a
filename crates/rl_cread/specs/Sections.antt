-- Sections in a text: where one begins, the arrays that it stands for, and the first line that is none of a section.
use Rattle.std.specs.Prelude.{◌≡◌, ◌≢◌, ℕ, ◌+◌, ◌-◌, ◌<◌, ◌==◌, Bool, IsTrue, ℤ, List, [], ◌∷◌, ◌++◌, map, length, take, drop, Option, IfSome, IsSomeAnd, slice_get, ◌⊎◌, if◌then◌else◌, codes}
use Rattle.std.specs.List.{slice_split}
use Rattle.rl_arrays.specs.declared.arrays.Arrays.{Arrays}
use Rattle.rl_arrays.specs.declared.arrays.ArrayName.TheVariants.{EntryStates}
use Rattle.rl_arrays.specs.declared.arrays.BadValue.{BadValue}
use Rattle.rl_arrays.specs.Names.{is_name}
use Rattle.rl_arrays.specs.Words.{IfAt}
use Rattle.rl_arrays.specs.Sizes.{shares}
use Rattle.rl_arrays.specs.Section.{first_line, last_line, head_lines, entry_line, array_line, elements, printed, section_lines}
use Rattle.rl_arrays.specs.Valid.{IsBad, SoundBefore}
use Rattle.rl_cread.specs.declared.fault.TableFault.{TableFault}
use Rattle.rl_cread.specs.declared.fault.TableFault.TheVariants as the
use Rattle.rl_cread.specs.Contents.{IsPrintable}

-- the lines of a text: each ends at a newline, and what stands behind the last newline is no line
abbrev pub lines_of : List ℕ → List (List ℕ)
lines_of text = let parts = slice_split (λ b. b == 10) text in take (length parts - 1) parts

-- the version of a section whose keys share cells, or of one whose keys do not
abbrev pub version_text : Bool → List ℕ
version_text shared = if shared then codes "2" else codes "1"

-- the line is the first of a section of this version and this name: the name that is sought, or any where none is
pub record Marks (machine : Option (List ℕ)) (line : List ℕ) (shared : Bool) (name : List ℕ) : Type 0 where
  pub formed : IsTrue (is_name name)
  pub sought : IfSome machine (λ word. word ≡ name)
  pub is : line ≡ first_line (version_text shared) name

-- the line is the first of a section
pub record IsFirst (machine : Option (List ℕ)) (line : List ℕ) : Type 0 where
  pub shared : Bool
  pub name : List ℕ
  pub marks : Marks machine line shared name

-- the lines from an index on, from 0, begin with the first line of a section, and no line before does
pub record BeginsAt (machine : Option (List ℕ)) (lines : List (List ℕ)) (at : ℕ) : Type 0 where
  pub first : IsSomeAnd (slice_get lines at) (IsFirst machine)
  pub before : (k : ℕ) → k < at → IfSome (slice_get lines k) (λ line. IsFirst machine line → ⊥)

-- the lines of a section, whose entry lines stand as they are, whatever the arrays say of entries
abbrev pub lines_with : Arrays → List (List ℕ × ℤ) → List (List ℕ)
lines_with a lines =
    head_lines a
    ++ (map (entry_line a.name) lines
    ++ (map (λ array. array_line a.name array (elements a array)) (printed (shares a)) ++ (last_line a.name ∷ [])))

-- the text's section is the one of these arrays: its lines stand where the first section begins
pub record IsRead (machine : Option (List ℕ)) (text : List ℕ) (a : Arrays) : Type 0 where
  pub at : ℕ
  pub begins : BeginsAt machine (lines_of text) at
  pub behind : List (List ℕ)
  pub lines : drop at (lines_of text) ≡ section_lines a ++ behind

-- the first k lines are those of a section that can be printed
pub record Begins (lines : List (List ℕ)) (k : ℕ) : Type 0 where
  pub arrays : Arrays
  pub entries : List (List ℕ × ℤ)
  pub fits : IsPrintable arrays entries
  pub within : k < length (lines_with arrays entries) + 1
  pub same : (j : ℕ) → j < k → slice_get lines j ≡ slice_get (lines_with arrays entries) j

-- line k, from 0, is the first that is not the line due in its place: the lines before it begin a section that has more
-- lines, and with it they begin none. A line that is missing is none
pub record IsBadLine (lines : List (List ℕ)) (k : ℕ) : Type 0 where
  pub before : Begins lines k
  pub due : k < length (lines_with before.arrays before.entries)
  pub none : Begins lines (k + 1) → ⊥

-- the line of a text, from 1, that is the first which is not right
pub record IsBadText (machine : Option (List ℕ)) (text : List ℕ) (line : ℕ) : Type 0 where
  pub at : ℕ
  pub begins : BeginsAt machine (lines_of text) at
  pub place : ℕ
  pub bad : IsBadLine (drop at (lines_of text)) place
  pub is : line ≡ at + place + 1

-- entry lines are those of the arrays: as many as there are names behind the first one, with these names in their order. A
-- state on a line is compared only where the element that has it is there
pub record AreEntries (a : Arrays) (lines : List (List ℕ × ℤ)) : Type 0 where
  pub names : map (λ entry. entry.0) lines ≡ drop 1 a.entry_names
  pub states : (i : ℕ) → IfSome (slice_get lines i) (λ entry. IfAt a.entry_states (i + 1) (λ state. entry.1 ≡ state))

-- the first element that is not right. Entry lines that are not those of the arrays are told at element 0 of the last array
abbrev pub IsFirstBad : Arrays → List (List ℕ × ℤ) → BadValue → Type 0
IsFirstBad a lines bad =
    (IsBad a bad × (AreEntries a lines ⊎ (bad.array ≢ EntryStates)))
    ⊎ ((AreEntries a lines → ⊥) × SoundBefore a 27 × (bad ≡ record { array = EntryStates; index = 0 }))

-- the text of the section is right, and this is its first element that is not
pub record IsBadSection (machine : Option (List ℕ)) (text : List ℕ) (value : BadValue) : Type 0 where
  pub at : ℕ
  pub begins : BeginsAt machine (lines_of text) at
  pub arrays : Arrays
  pub entries : List (List ℕ × ℤ)
  pub fits : IsPrintable arrays entries
  pub behind : List (List ℕ)
  pub lines : drop at (lines_of text) ≡ lines_with arrays entries ++ behind
  pub bad : IsFirstBad arrays entries value

-- no line of the text is the first of a section
abbrev pub HasNone : Option (List ℕ) → List ℕ → Type 0
HasNone machine text = (k : ℕ) → IfSome (slice_get (lines_of text) k) (λ line. IsFirst machine line → ⊥)

-- why no tables are read; want of memory says nothing of the text
abbrev pub Explains : Option (List ℕ) → List ℕ → TableFault → Type 0
Explains machine text the.NoSection = HasNone machine text
Explains machine text (the.BadText line) = IsBadText machine text line
Explains machine text (the.BadValue bad) = IsBadSection machine text bad
Explains machine text the.Memory = Unit {0}
