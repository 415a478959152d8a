-- What each line of a section says, and the line that says it.
use Rattle.std.specs.Prelude.{◌≡◌, ℕ, ◌+◌, ◌<◌, Bool, true, false, IsTrue, ℤ, pos, List, [], ◌∷◌, ◌++◌, map, replicate, length, Option, None, Some, IsSomeAnd, slice_get, codes}
use Rattle.std.specs.List.{AllByRecursion}
use Rattle.std.specs.Fmt.{signed_decimal}
use Rattle.rl_arrays.specs.declared.arrays.Arrays.{Arrays}
use Rattle.rl_arrays.specs.declared.arrays.ArrayName.{ArrayName}
use Rattle.rl_arrays.specs.declared.arrays.ArrayName.TheVariants.{CellUses}
use Rattle.rl_arrays.specs.Names.{is_name}
use Rattle.rl_arrays.specs.Sizes.{shares}
use Rattle.rl_arrays.specs.Section.{quoted, last_line, number_line, entry_line, array_line, printed}
use Rattle.rl_cread.specs.declared.said.Form.{Form}
use Rattle.rl_cread.specs.declared.said.Form.TheVariants as form
use Rattle.rl_cread.specs.declared.said.Label.{Label}
use Rattle.rl_cread.specs.declared.said.Label.TheVariants as label
use Rattle.rl_cread.specs.declared.said.Said.{Said}
use Rattle.rl_cread.specs.declared.said.Said.TheVariants as the
use Rattle.rl_cread.specs.declared.said.Stop.{Stop}
use Rattle.rl_cread.specs.declared.said.Stop.TheVariants as stop
use Rattle.rl_cread.specs.declared.said.TheConstants.{HEAD, FRONT, BACK}
use Rattle.rl_cread.specs.Contents.{Content, Numbers, Names, content, IsPrintedNumber, IsPrintedName}

abbrev pub label_word : Label → List ℕ
label_word label.Start = codes "start"
label_word label.FirstFinal = codes "first_final"
label_word label.Alphabet = codes "alphabet"

-- the line that says it
abbrev pub line : List ℕ → Said → List ℕ
line name (the.Number label n) = number_line name (label_word label) n
line name the.Error = number_line name (codes "error") (pos 0)
line name (the.Entry entry n) = entry_line name (entry, n)
line name (the.Numbers array ns) = array_line name array (map signed_decimal ns)
line name (the.Names array names) = array_line name array (map quoted names)
line name the.Last = last_line name

-- what a line of this form may say
abbrev pub FitsForm : Form → Said → Type 0
FitsForm (form.Number label) (the.Number other n) = (other ≡ label) × IsPrintedNumber n
FitsForm form.Error the.Error = Unit {0}
FitsForm form.Entry (the.Entry entry n) = IsTrue (is_name entry) × IsPrintedNumber n
FitsForm (form.Numbers array) (the.Numbers other ns) = (other ≡ array) × AllByRecursion IsPrintedNumber ns
FitsForm (form.Names array) (the.Names other names) = (other ≡ array) × AllByRecursion IsPrintedName names
FitsForm form.Last the.Last = Unit {0}
FitsForm f s = ⊥

-- a reader of a line: what it says, or the line says nothing of this form
abbrev pub ReadsLine : List ℕ → Form → List ℕ → Option Said → Type 0
ReadsLine name f text (Some s) = FitsForm f s × (text ≡ line name s)
ReadsLine name f text None = (s : Said) → FitsForm f s → text ≡ line name s → ⊥

abbrev pub AllFit : List Form → List Said → Type 0
AllFit [] [] = Unit {0}
AllFit (f ∷ fs) (s ∷ ss) = FitsForm f s × AllFit fs ss
AllFit fs ss = ⊥

-- the first k lines say this; a missing line says nothing
pub record Agrees (name : List ℕ) (forms : List Form) (lines : List (List ℕ)) (k : ℕ) (ss : List Said) : Type 0 where
  pub fits : AllFit forms ss
  pub same : (j : ℕ) → j < k → slice_get lines j ≡ slice_get (map (line name) ss) j

pub record BeginsSo (name : List ℕ) (forms : List Form) (lines : List (List ℕ)) (k : ℕ) : Type 0 where
  pub said : List Said
  pub agrees : Agrees name forms lines k said

-- line k, from 0, is the first that does not say what is due in its place
pub record IsBadAt (name : List ℕ) (forms : List Form) (lines : List (List ℕ)) (k : ℕ) : Type 0 where
  pub within : k < length forms
  pub before : BeginsSo name forms lines k
  pub none : BeginsSo name forms lines (k + 1) → ⊥

abbrev pub Tells : List ℕ → List Form → List (List ℕ) → Stop → Type 0
Tells name forms lines stop.Memory = Unit {0}
Tells name forms lines (stop.BadLine k) = IsBadAt name forms lines k

-- the first lines say this
abbrev pub SoFar : List ℕ → List Form → List (List ℕ) → List Said → Type 0
SoFar name fs lines [] = Unit {0}
SoFar name (f ∷ fs) (l ∷ lines) (s ∷ ss) = FitsForm f s × (l ≡ line name s) × SoFar name fs lines ss
SoFar name fs lines ss = ⊥

-- the forms of the line of uses, which only a section whose keys share cells has
abbrev pub uses : Bool → List Form
uses true = form.Numbers CellUses ∷ []
uses false = []

-- the forms of the lines behind the entries
abbrev pub tail : Bool → List Form
tail shared = FRONT ++ (uses shared ++ BACK)

-- the forms of the lines behind the first one, of a section with so many entry lines
abbrev pub shape : Bool → ℕ → List Form
shape shared entries = HEAD ++ (replicate entries form.Entry ++ tail shared)

-- the line is that of an entry
pub record IsEntryLine (name line : List ℕ) : Type 0 where
  pub word : List ℕ
  pub number : ℤ
  pub fits : IsTrue (is_name word) × IsPrintedNumber number
  pub is : line ≡ entry_line name (word, number)

-- so many lines are entry lines, and the next one is none
pub record EntriesEnd (name : List ℕ) (lines : List (List ℕ)) (count : ℕ) : Type 0 where
  pub each : (k : ℕ) → k < count → IsSomeAnd (slice_get lines k) (IsEntryLine name)
  pub next : IsSomeAnd (slice_get lines count) (IsEntryLine name) → ⊥

-- what the lines of a section say, behind the first one
abbrev pub saying : ArrayName → Content → Said
saying array (Numbers ns) = the.Numbers array ns
saying array (Names names) = the.Names array names

abbrev pub said_entry : List ℕ × ℤ → Said
said_entry entry = the.Entry entry.0 entry.1

abbrev pub tail_of : Bool → Arrays → List Said
tail_of shared a = map (λ array. saying array (content a array)) (printed shared) ++ (the.Last ∷ [])

abbrev pub said_of : Arrays → List (List ℕ × ℤ) → List Said
said_of a lines =
    the.Number label.Start a.start ∷ the.Number label.FirstFinal a.first_final ∷ the.Error ∷ the.Number label.Alphabet a.alphabet
    ∷ (map said_entry lines ++ tail_of (shares a) a)
