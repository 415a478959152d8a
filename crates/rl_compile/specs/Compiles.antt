-- What a compilation writes, and when it ends how (this profile).
use Rattle.std.specs.Prelude.{◌≡◌, ◌==◌, ◌⊎◌, ◌-◌, ◌++◌, ℕ, IsSome, List, length, take, Option, Some, None, Result, Ok, Err, codes, if◌then◌else◌}
use Rattle.std.specs.List.{ends_with}
use Rattle.rl_types.specs.declared.status.Status.{Status}
use Rattle.rl_types.specs.declared.status.Status.TheVariants as statuses
use Rattle.rl_io.specs.Outside.{Held, Rose, Writes, KeepsOthers}
use Rattle.rl_ends.specs.Statuses.{status_of}
use Rattle.rl_ends.specs.Told.{Tells, line_of}
use Rattle.rl_ends.specs.declared.refusal.Refusal.{Refusal}
use Rattle.rl_ends.specs.declared.refusal.Refusal.TheVariants as refusals
use Rattle.rl_includes.specs.declared.unrolled.Stop.{Stop}
use Rattle.rl_includes.specs.declared.unrolled.Stop.TheVariants as stop
use Rattle.rl_words.specs.Compiles.{Compile, compile_of}
use Rattle.rl_compile.specs.Printing.{IsPrinted, HasAllBuilt, RefusesSource, StopsSource}

-- ---- words

-- certificates are not printed yet
abbrev pub uncertified : Option Compile → Option Compile
uncertified None = None
uncertified (Some c) = if c.certify then None else Some c

-- what the words ask for
abbrev pub asked : List (List ℕ) → Option Compile
asked words = uncertified (compile_of words)

-- the name of a source, without a final `.rl`
abbrev pub stem : List ℕ → List ℕ
stem name = if ends_with (λ a b. a == b) name (codes ".rl") then take (length name - 3) name else name

-- the name of the printed file, where none is given
abbrev pub printed_name : Option (List ℕ) → List ℕ → List ℕ
printed_name (Some name) spec = name
printed_name None spec = stem spec ++ codes ".c"

abbrev pub out_name : Compile → List ℕ
out_name c = printed_name c.out c.spec

-- ---- the outside

-- what a compilation finds and what it leaves: what the store holds, and its count of faults
pub record Outside : Type 0 where
  pub held : Held
  pub left : Held
  pub before : ℕ
  pub now : ℕ

abbrev pub outside : Held → Held → ℕ → ℕ → Outside
outside held left before now = record { held = held; left = left; before = before; now = now }

-- the store holds what it held
abbrev pub IsUntouched : Outside → Type 0
IsUntouched o = o.left ≡ o.held

-- ---- the end

-- the printed file is written, and no other
pub record IsWritten (o : Outside) (c : Compile) : Type 0 where
  pub bytes : List ℕ
  pub printed : IsPrinted o.held c.spec c.marked bytes
  pub writes : Writes o.held o.left (out_name c) bytes
  pub others : KeepsOthers o.held o.left (out_name c)
  pub quiet : o.now ≡ o.before

-- the store failed to write the printed file, which may hold anything
pub record IsCutOff (o : Outside) (c : Compile) (file : List ℕ) : Type 0 where
  pub bytes : List ℕ
  pub printed : IsPrinted o.held c.spec c.marked bytes
  pub is : file ≡ out_name c
  pub others : KeepsOthers o.held o.left (out_name c)
  pub rose : Rose o.before o.now

-- the source is refused, and nothing is written
abbrev pub IsStopped : Outside → Compile → Stop → Type 0
IsStopped o c s = RefusesSource o.held c.spec o.before o.now s × IsUntouched o

-- how a compilation ends that the words ask for
abbrev pub EndsAsked : {T : Type 0} → Outside → Compile → Result T Refusal → Type 0
EndsAsked o c (Ok done) = IsWritten o c
EndsAsked o c (Err (refusals.Fault fault file)) = IsStopped o c (stop.Fault fault file)
EndsAsked o c (Err (refusals.Limit limit file)) = IsStopped o c (stop.Limit limit file)
EndsAsked o c (Err (refusals.Missing file)) = IsStopped o c (stop.Missing file)
EndsAsked o c (Err (refusals.StoreFailed file)) = IsStopped o c (stop.StoreFailed file) ⊎ IsCutOff o c file
EndsAsked o c (Err refusals.Memory) = IsUntouched o
EndsAsked o c (Err _) = ⊥

-- a compilation up to its end: how it ended, with the cause, and what it leaves
abbrev pub Ends : {T : Type 0} → Outside → List (List ℕ) → Result T Refusal → Type 0
Ends o words (Err refusals.Usage) = (asked words ≡ None) × IsUntouched o × (o.now ≡ o.before)
Ends o words (Err refusals.Memory) = IsUntouched o
Ends o words end = (c : Compile) × (asked words ≡ Some c) × EndsAsked o c end

-- ---- what is due

-- how the stop of a source is told
abbrev pub stopped_as : Stop → Refusal
stopped_as (stop.Fault fault file) = refusals.Fault fault file
stopped_as (stop.Limit limit file) = refusals.Limit limit file
stopped_as (stop.Missing file) = refusals.Missing file
stopped_as (stop.StoreFailed file) = refusals.StoreFailed file

-- how the compilation of a source is to end where the store does not fail
abbrev pub DueBySource : Held → List ℕ → Result (Unit {0}) Refusal → Type 0
DueBySource held name end =
    ((s : Stop) × StopsSource ⊥ held name s × (end ≡ Err (stopped_as s))) ⊎ (HasAllBuilt held name × (end ≡ Ok tt))

-- the same of a compilation by its words
abbrev pub Due : Held → List (List ℕ) → Result (Unit {0}) Refusal → Type 0
Due held words end =
    ((asked words ≡ None) × (end ≡ Err refusals.Usage))
    ⊎ ((c : Compile) × (asked words ≡ Some c) × DueBySource held c.spec end)

-- the store tells what it holds, and did not fail
pub record HasNoFault (o : Outside) : Type 0 where
  pub told : IsSome o.held
  pub store : Rose o.before o.now → ⊥

-- a compilation that meets no fault ends as it is to end, or for want of memory
abbrev pub IsComplete : Outside → List (List ℕ) → Option (List ℕ) → Option (List ℕ) → ℕ → ℕ → Status → Type 0
IsComplete o words old new before now status =
    HasNoFault o → (end : Result (Unit {0}) Refusal) → Due o.held words end →
    ((status ≡ status_of end) × Tells old new before now (line_of end)) ⊎ (status ≡ statuses.Memory)

-- ---- the answer

-- there is one way to end, with its status, and the error output gains its line
abbrev pub EndsWith : Outside → List (List ℕ) → Option (List ℕ) → Option (List ℕ) → ℕ → ℕ → Status → Type 0
EndsWith o words old new before now status =
    (end : Result (Unit {0}) Refusal) × Ends o words end × (status ≡ status_of end)
    × Tells old new before now (line_of end)
