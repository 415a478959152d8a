-- Refusals one after another, each with the name of its file.
use Rattle.std.specs.Prelude.{◌≡◌, ℕ, List, [], Option, Some, None, Result, Ok, Err, slice_get, unwrap_or, option_map, MatchResult}
use Rattle.rl_grammar.specs.declared.read_fault.ReadFault.{ReadFault}
use Rattle.rl_grammar.specs.declared.read_fault.ReadFault.TheVariants as reason
use Rattle.rl_includes.specs.declared.unrolled.Stop.{Stop}
use Rattle.rl_includes.specs.declared.unrolled.Stop.TheVariants as stop
use Rattle.rl_resolve.specs.declared.answer.ResolveFault.{ResolveFault}
use Rattle.rl_resolve.specs.declared.answer.ResolveFault.TheVariants as refusal

-- a refusal where there is one, or else what is read
abbrev pub refused : {A : Type 0} → Option ResolveFault → Result A ResolveFault → Result A ResolveFault
refused None read = read
refused (Some e) read = Err e

-- what is read on from a value; a refusal stays
abbrev pub and_then : {A B : Type 0} → Result A ResolveFault → (A → Result B ResolveFault) → Result B ResolveFault
and_then (Err e) next = Err e
and_then (Ok x) next = next x

-- ---- files

-- the name of the file of this number
abbrev pub file_name : List (List ℕ) → ℕ → List ℕ
file_name files number = unwrap_or (slice_get files number) []

-- a refusal with the name of the file of its place
abbrev pub named : List (List ℕ) → ReadFault → ResolveFault
named files (reason.Fault fault) = refusal.Fault fault (file_name files fault.place.file)
named files (reason.Limit limit) = refusal.Limit limit (file_name files limit.place.file)
named files reason.Memory = refusal.Memory

-- one that may be
abbrev pub told : List (List ℕ) → Option ReadFault → Option ResolveFault
told files due = option_map (named files) due

-- what is read, or the refusal with the name of its file
abbrev pub read_in : {A : Type 0} → List (List ℕ) → Result A ReadFault → Result A ResolveFault
read_in files (Ok x) = Ok x
read_in files (Err e) = Err (named files e)

-- why the statements end before the source does
abbrev pub stopped_by : Stop → ResolveFault
stopped_by (stop.Fault fault name) = refusal.Fault fault name
stopped_by (stop.Limit limit name) = refusal.Limit limit name
stopped_by (stop.Missing name) = refusal.Missing name
stopped_by (stop.StoreFailed name) = refusal.StoreFailed name

abbrev pub stopped : Option Stop → Option ResolveFault
stopped ended = option_map stopped_by ended

-- ---- answers

-- it is this refusal; only memory may be wanted at any time
abbrev pub IsTold : ResolveFault → ResolveFault → Type 0
IsTold due (refusal.Fault fault name) = due ≡ refusal.Fault fault name
IsTold due (refusal.Limit limit name) = due ≡ refusal.Limit limit name
IsTold due (refusal.Missing name) = due ≡ refusal.Missing name
IsTold due (refusal.StoreFailed name) = due ≡ refusal.StoreFailed name
IsTold due refusal.Memory = Unit {0}

-- the same of one that may be due
abbrev pub Told : Option ResolveFault → ResolveFault → Type 0
Told due (refusal.Fault fault name) = due ≡ Some (refusal.Fault fault name)
Told due (refusal.Limit limit name) = due ≡ Some (refusal.Limit limit name)
Told due (refusal.Missing name) = due ≡ Some (refusal.Missing name)
Told due (refusal.StoreFailed name) = due ≡ Some (refusal.StoreFailed name)
Told due refusal.Memory = Unit {0}

-- nothing is due, or it is told
abbrev pub Tells : {A : Type 0} → Option ResolveFault → Result A ResolveFault → Type 0
Tells due answer = MatchResult answer (λ done. due ≡ None) (Told due)

-- the refusal of what is read
abbrev pub Explains : {A : Type 0} → Result A ResolveFault → ResolveFault → Type 0
Explains read (refusal.Fault fault name) = read ≡ Err (refusal.Fault fault name)
Explains read (refusal.Limit limit name) = read ≡ Err (refusal.Limit limit name)
Explains read (refusal.Missing name) = read ≡ Err (refusal.Missing name)
Explains read (refusal.StoreFailed name) = read ≡ Err (refusal.StoreFailed name)
Explains read refusal.Memory = Unit {0}

-- the value that is read, or the refusal
abbrev pub Gives : {A : Type 0} → Result A ResolveFault → Result A ResolveFault → Type 0
Gives read answer = MatchResult answer (λ value. read ≡ Ok value) (Explains read)
