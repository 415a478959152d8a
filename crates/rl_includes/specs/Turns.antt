-- What comes of one statement of a file: a step, nothing, a refusal, or an `include` that is to be followed.
use Rattle.std.specs.Prelude.{ℕ, ◌+◌, Bool, true, false, not, if◌then◌else◌, List, [], ◌∷◌, ◌++◌, map, Option, Some, None, is_some}
use Rattle.std.specs.Str.{bytes_eq}
use Rattle.rl_types.specs.declared.faults.FaultKind.{FaultKind}
use Rattle.rl_types.specs.declared.faults.FaultKind.TheVariants.{F4}
use Rattle.rl_types.specs.declared.numbers.Place.{Place}
use Rattle.rl_grammar.specs.declared.syntax.Include.{Include}
use Rattle.rl_grammar.specs.declared.syntax.Statement.{Statement}
use Rattle.rl_grammar.specs.declared.syntax.Statement.TheVariants as statement
use Rattle.rl_grammar.specs.declared.syntax.Syntax.{Syntax}
use Rattle.rl_grammar.specs.declared.syntax.Word.{Word}
use Rattle.rl_includes.specs.Names.{written_name, looked_up}
use Rattle.rl_includes.specs.declared.reader.Extent.{Extent}
use Rattle.rl_includes.specs.declared.reader.Extent.TheVariants as extent
use Rattle.rl_includes.specs.declared.reader.Located.{Located}
use Rattle.rl_includes.specs.declared.reader.Part.{Part}
use Rattle.rl_includes.specs.declared.reader.Reader.{Reader}
use Rattle.rl_includes.specs.declared.reader.Request.{Request}
use Rattle.rl_includes.specs.declared.unrolled.Stop.{Stop}
use Rattle.rl_includes.specs.declared.unrolled.Stop.TheVariants as stop
use Rattle.rl_includes.specs.declared.unrolled.Unrolled.{Unrolled}

-- ---- the statements of a file

-- those of one block
abbrev pub in_block : ℕ → Statement → Located
in_block block s = record { block = block; statement = s }

abbrev pub placed : ℕ → List Statement → List Located
placed block statements = map (in_block block) statements

-- those of all blocks in text order, where the first block has this number
abbrev pub located : ℕ → List Syntax → List Located
located block [] = []
located block (b ∷ bs) = placed block b.statements ++ located (block + 1) bs

-- where a statement begins
abbrev pub start_of : Statement → Place
start_of (statement.Machine s) = s.start
start_of (statement.Include s) = s.start
start_of (statement.Alphtype s) = s.start
start_of (statement.Access s) = s.start
start_of (statement.Variable s) = s.start
start_of (statement.Write s) = s.start
start_of (statement.Action s) = s.start
start_of (statement.Definition s) = s.name.place

-- ---- what is unrolled so far

-- a refusal ends it
abbrev pub stopped : Stop → Unrolled → Unrolled
stopped s u = record u { stop = Some s }

-- a fault of a file
abbrev pub faulted : FaultKind → Place → List ℕ → Unrolled → Unrolled
faulted kind place file = stopped (stop.Fault (record { kind = kind; place = place }) file)

-- a statement of the file of this number, with what it belongs to
abbrev pub stepped : ℕ → Part → Statement → Unrolled → Unrolled
stepped number part s u = record u { steps = u.steps ++ record { machine = part.machine; file = number; block = part.block; statement = s } ∷ [] }

-- ---- a statement

-- a `machine` statement holds up to the next one
abbrev pub current_behind : Option (List ℕ) → Statement → Option (List ℕ)
current_behind current (statement.Machine s) = Some s.name.text
current_behind current s = current

-- what the statements of a machine belong to, where they are read: in the source all of them, in an included file those of
-- the machine that is sought
abbrev pub part_of : Extent → ℕ → List ℕ → Option Part
part_of extent.Whole block name = Some (record { sought = name; machine = name; block = block })
part_of (extent.Included part) block name = if bytes_eq name part.sought then Some part else None

-- `machine` and `write` statements are those of the source alone
abbrev pub is_of_source : Statement → Bool
is_of_source (statement.Machine s) = true
is_of_source (statement.Write s) = true
is_of_source s = false

abbrev pub is_step : Extent → Statement → Bool
is_step extent.Whole s = true
is_step (extent.Included part) s = not (is_of_source s)

-- what a statement comes to: what is unrolled behind it, or an `include` that is to be followed
pub data Turn : Type 0 where
  Becomes : Unrolled → Turn
  Asks : Request → Turn

abbrev pub name_or : List ℕ → Option Word → List ℕ
name_or name None = name
name_or name (Some word) = word.text

-- an `include` reads the machine that it names, or else the current one, for the same machine of the source
abbrev pub request : Reader → Part → Include → Request
request reader part s = record {
  place = s.start;
  file = looked_up reader.name (written_name s.file.text);
  named = is_some s.machine;
  part = record part { sought = name_or part.sought s.machine };
}

-- a statement that is read
abbrev pub kept : Reader → Part → Statement → Unrolled → Unrolled
kept reader part s u = if is_step reader.extent s then stepped reader.number part s u else u

abbrev pub read_statement : Reader → Part → Statement → Unrolled → Turn
read_statement reader part (statement.Include s) u = Asks (request reader part s)
read_statement reader part s u = Becomes (kept reader part s u)

-- a statement is read where it belongs to something
abbrev pub read_in : Reader → Option Part → Statement → Unrolled → Turn
read_in reader None s u = Becomes u
read_in reader (Some part) s u = read_statement reader part s u

-- a statement before any `machine` of its file is at fault
abbrev pub turn_in : Reader → Option (List ℕ) → Located → Unrolled → Turn
turn_in reader None item u = Becomes (faulted F4 (start_of item.statement) reader.name u)
turn_in reader (Some name) item u = read_in reader (part_of reader.extent item.block name) item.statement u

-- what a statement comes to, where this is the current machine before it
abbrev pub turn : Reader → Option (List ℕ) → Located → Unrolled → Turn
turn reader current item u = turn_in reader (current_behind current item.statement) item u
