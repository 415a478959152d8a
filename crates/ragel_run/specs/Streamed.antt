-- What a run over the standard input writes, and when it does not (this profile).
use Rattle.std.specs.Prelude.{◌≡◌, ◌≢◌, ◌⊎◌, ◌≤◌, ℕ, true, false, List, [], length, Option, Some, None, Result, Ok, Err}
use Rattle.rl_types.specs.Limits.{most_input_bytes}
use Rattle.rl_types.specs.declared.faults.Limit.{Limit}
use Rattle.rl_types.specs.declared.faults.LimitKind.TheVariants.{L12}
use Rattle.rl_types.specs.declared.numbers.Place.{Place}
use Rattle.rl_io.specs.Outside.{Held, Rose, Reads, Lacks}
use Rattle.rl_arrays.specs.declared.arrays.Arrays.{Arrays}
use Rattle.rl_arrays.specs.TableMachine.{machine}
use Rattle.rl_cread.specs.declared.fault.TableFault.{TableFault}
use Rattle.rl_cread.specs.declared.fault.TableFault.TheVariants as marks
use Rattle.rl_cread.specs.Sections.{Explains}
use Rattle.rl_model.specs.declared.spec.Spec.{Spec}
use Rattle.rl_model.specs.Specification.{specification_of}
use Rattle.rl_model.specs.Trees.{TestsOf, AreTestsHonest}
use Rattle.rl_replay.specs.declared.script.Line.{Line}
use Rattle.rl_replay.specs.declared.script.ScriptFault.{ScriptFault}
use Rattle.rl_replay.specs.declared.script.ScriptFault.TheVariants as faults
use Rattle.rl_replay.specs.Sessions.{Names, entry_or_start}
use Rattle.rl_replay.specs.Written.{whole_input}
use Rattle.rl_script.specs.TableNames.{names_in}
use Rattle.rl_playback.specs.Defaults.{default_settings}
use Rattle.rl_stream.specs.Lines.{input_name}
use Rattle.rl_stream.specs.Streams as stream
use Rattle.rl_stream.specs.Streams.{HasTooMany}
use Rattle.rl_words.specs.Runs.{is_printed}
use Rattle.rl_ends.specs.declared.refusal.Refusal.{Refusal}
use Rattle.rl_ends.specs.declared.refusal.Refusal.TheVariants as refusals
use Rattle.ragel_run.specs.Files.{IsSection, IsSpelled, Gives}
use Rattle.ragel_run.specs.Sources.{HasSource}
use Rattle.ragel_run.specs.Replay.{names_of, prescribed, written_by, DueByStop}

-- the file whose first machine runs over the standard input, and the entry that its session is opened at
pub record Streaming : Type 0 where
  pub spec : List ℕ
  pub entry : List ℕ

-- the standard input: the bytes that were left and are left, where it tells them, and the counts of its faults
pub record Input : Type 0 where
  pub left_before : Option (List ℕ)
  pub left : Option (List ℕ)
  pub before : ℕ
  pub now : ℕ

-- the record of these
abbrev pub input_of : Option (List ℕ) → Option (List ℕ) → ℕ → ℕ → Input
input_of left_before left before now = record { left_before = left_before; left = left; before = before; now = now }

-- it was not read
abbrev pub IsUntouched : Input → Type 0
IsUntouched i = (i.left ≡ i.left_before) × (i.now ≡ i.before)

-- ---- the entry

-- the number of an entry by its name; 0 where none has the name
abbrev pub number_in : Names → List ℕ → ℕ
number_in names entry = entry_or_start names (Some entry)

-- there is none of this name: the fault stands in the first line of a script `input`
abbrev pub no_entry : ScriptFault
no_entry = faults.NoEntry 1

-- ---- the limit

-- the limit of the input, which has no place
abbrev pub input_limit : Limit
input_limit = record { kind = L12; place = record { file = 0; line = 1; col = 1 } }

-- ---- what is written

-- the script of the session `input`, which is opened at the entry, fed all bytes at once, and ended
abbrev pub script_over : List ℕ → List ℕ → List Line
script_over entry bytes = whole_input input_name (Some entry) bytes

-- what is said of bytes, where they are told
abbrev pub OfBytes : (List ℕ → Type 0) → Option (List ℕ) → Type 0
OfBytes P None = Unit {0}
OfBytes P (Some bytes) = P bytes

-- the output gained by what the expressions of a source, which has the entry, prescribe for all the bytes
pub record StreamsSource (Gains : List ℕ → Type 0) (held : Held) (s : Streaming) (left : Option (List ℕ)) : Type 0 where
  pub by_name : is_printed s.spec ≡ false
  pub source : Spec
  pub has : HasSource held None s.spec source
  pub known : number_in (names_of source) s.entry ≢ 0
  pub gains : (tests : TestsOf (specification_of source)) → AreTestsHonest (specification_of source) tests
      → OfBytes (λ bytes. Gains (prescribed source default_settings tests (script_over s.entry bytes))) left

-- the output gained by what the arrays write that a printed file spells, which have the entry
pub record StreamsPrinted (Gains : List ℕ → Type 0) (held : Held) (s : Streaming) (left : Option (List ℕ)) : Type 0 where
  pub by_name : is_printed s.spec ≡ true
  pub arrays : Arrays
  pub spelled : IsSpelled held None s.spec arrays
  pub known : number_in (names_in arrays) s.entry ≢ 0
  pub gains : OfBytes (λ bytes. Gains (written_by arrays default_settings (script_over s.entry bytes))) left

-- the output gained by what is due for all the bytes, with the default settings
abbrev pub Streams : (List ℕ → Type 0) → Held → Streaming → Option (List ℕ) → Type 0
Streams Gains held s left = StreamsSource Gains held s left ⊎ StreamsPrinted Gains held s left

-- arrays that have the entry; the output gained by the lines of their run over some of the bytes at the front, which is not
-- ended: whole events
abbrev pub HasEvents : Arrays → List ℕ → Input → Option (List ℕ) → Option (List ℕ) → Type 0
HasEvents a entry i old new =
    (number_in (names_in a) entry ≢ 0) × stream.LeavesEvents (machine a) default_settings (number_in (names_in a) entry) i.left_before old new

-- the same of all bytes that were read
abbrev pub HasOpen : Arrays → List ℕ → Input → Option (List ℕ) → Option (List ℕ) → Type 0
HasOpen a entry i old new =
    (number_in (names_in a) entry ≢ 0) × stream.LeavesOpen (machine a) default_settings (number_in (names_in a) entry) i.left_before i.left old new

-- the file gives arrays of which this holds
abbrev pub HasArrays : (Arrays → Type 0) → Held → Streaming → Type 0
HasArrays P held s = (a : Arrays) × Gives held None s.spec a × P a

-- none of its entries has the name
abbrev pub LacksEntry : Held → Streaming → Type 0
LacksEntry held s = HasArrays (λ a. number_in (names_in a) s.entry ≡ 0) held s

-- ---- what is due

-- how the run is to end by the names of the tables, where the input tells its bytes: the entry is looked at first. Nothing is due
-- for more bytes than an input may have
abbrev pub DueByBytes : Option (List ℕ) → Result (Unit {0}) Refusal → Type 0
DueByBytes None end = ⊥
DueByBytes (Some bytes) end = (length bytes ≤ most_input_bytes) × (end ≡ Ok tt)

abbrev pub DueByEntry : Names → List ℕ → Option (List ℕ) → Result (Unit {0}) Refusal → Type 0
DueByEntry names entry left end =
    ((number_in names entry ≡ 0) × (end ≡ Err (refusals.Script no_entry input_name)))
    ⊎ ((number_in names entry ≢ 0) × DueByBytes left end)

-- the same of a source, and of a printed file
abbrev pub DueByOpenSource : Held → Streaming → Option (List ℕ) → Result (Unit {0}) Refusal → Type 0
DueByOpenSource held s left end =
    DueByStop held None s.spec end
    ⊎ ((source : Spec) × HasSource held None s.spec source × DueByEntry (names_of source) s.entry left end)

abbrev pub DueByOpenSection : Held → Streaming → Option (List ℕ) → Result (Unit {0}) Refusal → Type 0
DueByOpenSection held s left end =
    (Lacks held s.spec × (end ≡ Err (refusals.Missing s.spec)))
    ⊎ ((text : List ℕ) × Reads held s.spec text × (fault : TableFault) × (fault ≢ marks.Memory) × Explains None text fault
    × (end ≡ Err (refusals.Section fault s.spec)))
    ⊎ ((text : List ℕ) × Reads held s.spec text × (a : Arrays) × IsSection None text a × DueByEntry (names_in a) s.entry left end)

-- how the run is to end where nothing fails
abbrev pub DueByStreaming : Held → Streaming → Option (List ℕ) → Result (Unit {0}) Refusal → Type 0
DueByStreaming held s left end =
    ((is_printed s.spec ≡ false) × DueByOpenSource held s left end) ⊎ ((is_printed s.spec ≡ true) × DueByOpenSection held s left end)
