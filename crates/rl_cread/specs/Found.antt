-- The first section of a text's lines, whether its keys share cells, and its name.
use Rattle.std.specs.Prelude.{◌≡◌, ℕ, Bool, IsTrue, List, Option, Some, slice_get, if◌then◌else◌, codes}
use Rattle.rl_arrays.specs.Names.{is_name}
use Rattle.rl_arrays.specs.Section.{first_line}
use Rattle.rl_cread.specs.Sections.{BeginsAt, version_text}

-- what stands before the name of a section in its first line
abbrev pub front_text : Bool → List ℕ
front_text shared = if shared then codes "/* rl-data 2 " else codes "/* rl-data 1 "

pub record IsFound (machine : Option (List ℕ)) (lines : List (List ℕ)) (at : ℕ) (shared : Bool) (name : List ℕ) : Type 0 where
  pub begins : BeginsAt machine lines at
  pub formed : IsTrue (is_name name)
  pub is : slice_get lines at ≡ Some (first_line (version_text shared) name)
