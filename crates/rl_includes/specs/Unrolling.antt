-- The statements of a source with the files that it includes read in place, up to the first refusal.
use Rattle.std.specs.Prelude.{◌≡◌, ◌⊎◌, ℕ, zero, suc, ◌-◌, Bool, true, false, ◌&&◌, not, List, [], ◌∷◌, ◌++◌, Option, Some, None, is_some, IsSome}
use Rattle.std.specs.List.{list_any}
use Rattle.std.specs.Str.{bytes_eq}
use Rattle.rl_types.specs.Limits.{most_includes}
use Rattle.rl_types.specs.declared.faults.FaultKind.TheVariants.{F4, F17}
use Rattle.rl_types.specs.declared.faults.LimitKind.TheVariants.{L2}
use Rattle.rl_types.specs.declared.numbers.Place.{Place}
use Rattle.rl_grammar.specs.declared.read_fault.ReadFault.TheVariants as reason
use Rattle.rl_grammar.specs.declared.syntax.Statement.{Statement}
use Rattle.rl_grammar.specs.declared.syntax.Statement.TheVariants as statement
use Rattle.rl_grammar.specs.declared.syntax.Syntax.{Syntax}
use Rattle.rl_io.specs.Outside.{Held, Reads, Lacks}
use Rattle.rl_files.specs.Files.{ReadsAs, IsRefusal}
use Rattle.rl_includes.specs.Names.{file_number, is_among, with_file}
use Rattle.rl_includes.specs.Turns.{located, stopped, faulted, current_behind, Turn, Becomes, Asks, turn}
use Rattle.rl_includes.specs.declared.reader.Extent.TheVariants as extent
use Rattle.rl_includes.specs.declared.reader.Located.{Located}
use Rattle.rl_includes.specs.declared.reader.Reader.{Reader}
use Rattle.rl_includes.specs.declared.reader.Request.{Request}
use Rattle.rl_includes.specs.declared.unrolled.Stop.{Stop}
use Rattle.rl_includes.specs.declared.unrolled.Stop.TheVariants as stop
use Rattle.rl_includes.specs.declared.unrolled.Unrolled.{Unrolled}

-- the first where the test holds, else the second
abbrev pub Either : Bool → Type 0 → Type 0 → Type 0
Either true A B = A
Either false A B = B

-- ---- the statements of a file, in text order

-- what an `include` makes of what is unrolled so far
abbrev pub Including : Type 1
Including = Reader → Request → Unrolled → Unrolled → Type 0

abbrev pub ComesTo : Including → Reader → Turn → Unrolled → Unrolled → Type 0
ComesTo includes reader (Becomes u) old new = new ≡ u
ComesTo includes reader (Asks request) old new = includes reader request old new

-- the statements of a file up to the first refusal, where this is the current machine before them
abbrev pub Follows : Including → Reader → List Located → Option (List ℕ) → Unrolled → Unrolled → Type 0
Follows includes reader [] current old end = end ≡ old
Follows includes reader (item ∷ items) current old end =
    Either (is_some old.stop) (end ≡ old)
    ((mid : Unrolled) × ComesTo includes reader (turn reader current item old) old mid × Follows includes reader items (current_behind current item.statement) mid end)

-- ---- a file that an `include` names

abbrev pub is_machine : List ℕ → Statement → Bool
is_machine name (statement.Machine s) = bytes_eq s.name.text name
is_machine name s = false

abbrev pub has_machine : List ℕ → List Syntax → Bool
has_machine name trees = list_any (λ t. list_any (is_machine name) t.statements) trees

-- the machine that is named is absent
abbrev pub is_absent : Request → List Syntax → Bool
is_absent request trees = request.named && not (has_machine request.part.sought trees)

-- the file is among those that were read
abbrev pub with_request : Request → Unrolled → Unrolled
with_request request u = record u { files = with_file u.files request.file }

-- a refusal of the file itself
abbrev pub RefusedAs : ℕ → List ℕ → List ℕ → Stop → Type 0
RefusedAs number text name (stop.Fault fault file) = IsRefusal number text (reason.Fault fault) × (file ≡ name)
RefusedAs number text name (stop.Limit limit file) = IsRefusal number text (reason.Limit limit) × (file ≡ name)
RefusedAs number text name (stop.Missing file) = ⊥
RefusedAs number text name (stop.StoreFailed file) = ⊥

pub record IsRefused (request : Request) (text : List ℕ) (old new : Unrolled) : Type 0 where
  pub refusal : Stop
  pub refused : RefusedAs (file_number old.files request.file) text request.file refusal
  pub is : new ≡ stopped refusal (with_request request old)

-- the trees of a file, where it has the machine that is named
abbrev pub OpensTrees : Reader → Request → List Syntax → Unrolled → Unrolled → Option (List Syntax) → Type 0
OpensTrees reader request trees old new None = (is_absent request trees ≡ true) × (new ≡ faulted F4 request.place reader.name old)
OpensTrees reader request trees old new (Some opened) = (is_absent request trees ≡ false) × (new ≡ old) × (opened ≡ trees)

-- a file that is read
pub record IsRead (reader : Reader) (request : Request) (text : List ℕ) (old new : Unrolled) (opened : Option (List Syntax)) : Type 0 where
  pub trees : List Syntax
  pub read : ReadsAs (file_number old.files request.file) text trees
  pub opens : OpensTrees reader request trees (with_request request old) new opened

-- the text of a file: its trees where it is read on
abbrev pub OpensText : Reader → Request → List ℕ → Unrolled → Unrolled → Option (List Syntax) → Type 0
OpensText reader request text old new None = IsRefused request text old new ⊎ IsRead reader request text old new None
OpensText reader request text old new (Some trees) = IsRead reader request text old new (Some trees)

-- the store has no such file
pub record IsMissing (held : Held) (request : Request) (old new : Unrolled) : Type 0 where
  pub lacks : Lacks held request.file
  pub is : new ≡ stopped (stop.Missing request.file) old

-- the store has this text
pub record HasText (held : Held) (reader : Reader) (request : Request) (old new : Unrolled) (opened : Option (List Syntax)) : Type 0 where
  pub text : List ℕ
  pub reads : Reads held request.file text
  pub opens : OpensText reader request text old new opened

-- the file that an `include` names: its trees where it is read on. The store may fail at every file
abbrev pub Opens : Held → Reader → Request → Unrolled → Unrolled → Option (List Syntax) → Type 0
Opens held reader request old new (Some trees) = HasText held reader request old new (Some trees)
Opens held reader request old new None =
    IsMissing held request old new ⊎ (new ≡ stopped (stop.StoreFailed request.file) old) ⊎ HasText held reader request old new None

-- ---- an `include`

-- how a file of this number is read that an `include` names
abbrev pub inner : Reader → Request → ℕ → Reader
inner reader request number = record {
  name = request.file;
  being_read = reader.being_read ++ request.file ∷ [];
  number = number;
  extent = extent.Included request.part;
  left = reader.left - 1;
}

abbrev pub GoesOn : Including → Reader → Option (List Syntax) → Unrolled → Unrolled → Type 0
GoesOn includes reader None old new = new ≡ old
GoesOn includes reader (Some trees) old new = Follows includes reader (located 0 trees) None old new

-- the file is opened, and its statements are read
pub record Enters (includes : Including) (held : Held) (reader : Reader) (request : Request) (old new : Unrolled) : Type 0 where
  pub opened : Option (List Syntax)
  pub mid : Unrolled
  pub opens : Opens held reader request old mid opened
  pub goes : GoesOn includes (inner reader request (file_number old.files request.file)) opened mid new

-- it stands too deep
abbrev pub too_deep : Reader → Place → Unrolled → Unrolled
too_deep reader place u = stopped (stop.Limit (record { kind = L2; place = place }) reader.name) u

-- a file that is among those being read is refused, and so is one that stands too deep, where `left` is how many more files
-- may be read within one another; else it is opened, and its statements are read
unfoldable pub Includes : ℕ → Held → Including
Includes zero held reader request old new =
    Either (is_among reader.being_read request.file) (new ≡ faulted F17 request.place reader.name old)
    (new ≡ too_deep reader request.place old)
Includes (suc left) held reader request old new =
    Either (is_among reader.being_read request.file) (new ≡ faulted F17 request.place reader.name old)
    (Enters (Includes left held) held reader request old new)

-- ---- a source

abbrev pub source_reader : List ℕ → Reader
source_reader file = record { name = file; being_read = file ∷ []; number = 0; extent = extent.Whole; left = most_includes }

abbrev pub nothing_yet : List ℕ → Unrolled
nothing_yet file = record { files = file ∷ []; steps = []; stop = None }

-- what the blocks of a source come to, where the store holds this. Where the store tells nothing, some texts stand for what
-- it gave, or it lacked the file. The store may fail at every file
abbrev pub Unrolls : Held → List ℕ → List Syntax → Unrolled → Type 0
Unrolls held file blocks unrolled = Follows (Includes most_includes held) (source_reader file) (located 0 blocks) None (nothing_yet file) unrolled

-- ---- one end

-- the store failed
abbrev pub IsFailure : Option Stop → Type 0
IsFailure (Some (stop.StoreFailed name)) = Unit {0}
IsFailure (Some (stop.Fault fault name)) = ⊥
IsFailure (Some (stop.Limit limit name)) = ⊥
IsFailure (Some (stop.Missing name)) = ⊥
IsFailure None = ⊥

-- these blocks come to this and to nothing else, unless the store fails
abbrev pub OnlyEnd : Held → List ℕ → List Syntax → Unrolled → Type 0
OnlyEnd held file blocks u =
    (other : Unrolled) → IsSome held → Unrolls held file blocks other → (IsFailure other.stop → ⊥) → (IsFailure u.stop → ⊥) → u ≡ other
