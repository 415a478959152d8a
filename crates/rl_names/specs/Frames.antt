-- What the statements of one machine say beside its expressions and actions, and which machines there are.
use Rattle.std.specs.Prelude.{ℕ, Bool, true, not, ◌&&◌, if◌then◌else◌, List, [], ◌∷◌, ◌++◌, fold, Option, Some, None}
use Rattle.std.specs.List.{list_any, position_or_len}
use Rattle.std.specs.Str.{bytes_eq}
use Rattle.rl_types.specs.declared.alphabet.Alphabet.{Alphabet}
use Rattle.rl_types.specs.declared.alphabet.Alphabet.TheVariants.{Char, UnsignedChar, Short, UnsignedShort, Int, UnsignedInt}
use Rattle.rl_types.specs.declared.numbers.Place.{Place}
use Rattle.rl_grammar.specs.declared.syntax.AlphabetWord.{AlphabetWord}
use Rattle.rl_grammar.specs.declared.syntax.AlphabetWord.TheVariants as word
use Rattle.rl_grammar.specs.declared.syntax.Statement.{Statement}
use Rattle.rl_grammar.specs.declared.syntax.Statement.TheVariants as statement
use Rattle.rl_grammar.specs.declared.syntax.WriteKind.{WriteKind as Asked}
use Rattle.rl_grammar.specs.declared.syntax.WriteKind.TheVariants as asked
use Rattle.rl_model.specs.declared.spec.Frame.{Frame}
use Rattle.rl_model.specs.declared.spec.Write.{Write}
use Rattle.rl_model.specs.declared.spec.WriteKind.{WriteKind}
use Rattle.rl_model.specs.declared.spec.WriteKind.TheVariants as written
use Rattle.rl_grammar.specs.Steps.{is_included}
use Rattle.rl_grammar.specs.declared.step.Step.{Step}

-- the step belongs to the machine
abbrev pub is_of : List ℕ → Step → Bool
is_of machine s = bytes_eq machine s.machine

-- ---- the alphabet: that of the last `alphtype`, or else `char`

-- the alphabet of a word, behind `unsigned` where that stands
abbrev pub alphabet_said : Option Place → AlphabetWord → Alphabet
alphabet_said None (word.Char place) = Char
alphabet_said None (word.Short place) = Short
alphabet_said None (word.Int place) = Int
alphabet_said (Some unsigned) (word.Char place) = UnsignedChar
alphabet_said (Some unsigned) (word.Short place) = UnsignedShort
alphabet_said (Some unsigned) (word.Int place) = UnsignedInt

abbrev pub alphabet_by : Alphabet → Statement → Alphabet
alphabet_by a (statement.Alphtype s) = alphabet_said s.unsigned s.word
alphabet_by a _ = a

abbrev pub alphabet_behind : List ℕ → Alphabet → Step → Alphabet
alphabet_behind machine a s = if is_of machine s then alphabet_by a s.statement else a

abbrev pub alphabet_of : List ℕ → List Step → Alphabet
alphabet_of machine steps = fold (alphabet_behind machine) Char steps

-- ---- what the printed code is given

abbrev pub empty_frame : Frame
empty_frame = record { access = []; variables = []; marked = true }

-- the text of the last `variable` statement of each name, in order of the names' first use
abbrev pub with_variable : List ℕ → List ℕ → List (List ℕ × List ℕ) → List (List ℕ × List ℕ)
with_variable name text [] = (name, text) ∷ []
with_variable name text (v ∷ vs) = if bytes_eq name v.0 then (name, text) ∷ vs else v ∷ with_variable name text vs

-- the place of a variable, or the number of them all
abbrev pub variable_place : List ℕ → List (List ℕ × List ℕ) → ℕ
variable_place name variables = position_or_len (λ v. bytes_eq name v.0) variables

abbrev pub frame_by : Frame → Statement → Frame
frame_by f (statement.Access s) = record f { access = s.text.text }
frame_by f (statement.Variable s) = record f { variables = with_variable s.name.text s.text.text f.variables }
frame_by f _ = f

abbrev pub frame_behind : List ℕ → Frame → Step → Frame
frame_behind machine f s = if is_of machine s then frame_by f s.statement else f

abbrev pub frame_of : List ℕ → List Step → Frame
frame_of machine steps = fold (frame_behind machine) empty_frame steps

-- ---- `write` statements of the source itself

abbrev pub kind_written : Asked → WriteKind
kind_written (asked.Data place) = written.Data
kind_written (asked.Init place) = written.Init
kind_written (asked.Exec place) = written.Exec

abbrev pub write_by : List Write → ℕ → Statement → List Write
write_by ws block (statement.Write s) = ws ++ record { block = block; kind = kind_written s.what; place = s.start } ∷ []
write_by ws block _ = ws

-- it belongs to the machine, and stands in the source itself
abbrev pub is_own : List ℕ → Step → Bool
is_own machine s = not (is_included s) && is_of machine s

abbrev pub write_behind : List ℕ → List Write → Step → List Write
write_behind machine ws s = if is_own machine s then write_by ws s.block s.statement else ws

abbrev pub writes_of : List ℕ → List Step → List Write
writes_of machine steps = fold (write_behind machine) [] steps

-- ---- machines: those that `machine` statements of the source itself name, in order of first mention

-- a name that is not there stands at the end
abbrev pub with_name : List (List ℕ) → List ℕ → List (List ℕ)
with_name names name = if list_any (bytes_eq name) names then names else names ++ name ∷ []

abbrev pub machine_by : List (List ℕ) → Statement → List (List ℕ)
machine_by names (statement.Machine s) = with_name names s.name.text
machine_by names _ = names

abbrev pub machine_behind : List (List ℕ) → Step → List (List ℕ)
machine_behind names s = if is_included s then names else machine_by names s.statement

abbrev pub machines_of : List Step → List (List ℕ)
machines_of steps = fold machine_behind [] steps
