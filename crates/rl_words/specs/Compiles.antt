-- What the words of `ragel` say (this profile).
use Rattle.std.specs.Prelude.{◌≡◌, Bool, true, false, not, List, [], ◌∷◌, Option, Some, None, codes, if◌then◌else◌}
use Rattle.std.specs.Option.{option_map_or}
use Rattle.std.specs.Str.{bytes_eq}
use Rattle.clap.specs.Words.{Row, Text, Kinds, fault_of, first_of, matches_of}
use Rattle.rl_words.specs.Commands.{compiler}

-- what `ragel` is to do: which file is compiled, where the printed file goes, where a name is given for it, whether its lines
-- name those of the source, and whether a certificate is printed
pub record Compile : Type 0 where
  pub spec : Text
  pub out : Option Text
  pub marked : Bool
  pub certify : Bool

-- whether a value that was matched is this text
abbrev pub is_text : Text → Option Text → Bool
is_text wanted text = option_map_or (bytes_eq wanted) text false

abbrev pub is_on : Text → List Row → Bool
is_on id rows = is_text (codes "true") (first_of id rows)

-- `-T` has the value 0, where it is given
abbrev pub is_table_driven : Option Text → Bool
is_table_driven None = true
is_table_driven (Some text) = bytes_eq (codes "0") text

abbrev pub compile : List Row → Text → Compile
compile rows spec = record { spec = spec; out = first_of (codes "o") rows; marked = not (is_on (codes "L") rows); certify = is_on (codes "certify") rows }

abbrev pub compile_given : List Row → Option Text → Option Compile
compile_given rows None = None
compile_given rows (Some spec) = if is_table_driven (first_of (codes "T") rows) then Some (compile rows spec) else None

abbrev pub compile_matched : Kinds → List Row → Option Compile
compile_matched [] rows = compile_given rows (first_of (codes "spec") rows)
compile_matched (k ∷ ks) rows = None

-- what the words behind the program's name say, if they have the form
-- `[-C] [-L] [-T 0] [-m] [-l] [-e] [-o OUT] [--certify] SPEC`
abbrev pub compile_of : List Text → Option Compile
compile_of words = compile_matched (fault_of compiler words) (matches_of compiler words)
