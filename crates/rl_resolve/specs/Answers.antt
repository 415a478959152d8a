-- What a source resolves to, and what is said of it.
use Rattle.std.specs.Prelude.{◌≡◌, ℕ, ◌≤◌, ◌<◌, ◌^◌, List, [], ◌∷◌, map, length, nat_lt, ◌&&◌, Bool, IsTrue, Result, Ok, Err, MatchResult}
use Rattle.std.specs.List.{list_any}
use Rattle.std.specs.Str.{bytes_eq}
use Rattle.rl_grammar.specs.declared.syntax.Syntax.{Syntax}
use Rattle.rl_io.specs.Outside.{Held, Rose}
use Rattle.rl_model.specs.declared.spec.Spec.{Spec}
use Rattle.rl_includes.specs.Unrolling.{Unrolls, OnlyEnd, IsFailure}
use Rattle.rl_includes.specs.declared.unrolled.Unrolled.{Unrolled}
use Rattle.rl_draft.specs.declared.draft.Draft.{Draft}
use Rattle.rl_model.specs.WellFormed.{IsWellFormed}
use Rattle.rl_resolve.specs.Descriptions.{description, described}
use Rattle.rl_resolve.specs.Refusals.{Explains}
use Rattle.rl_resolve.specs.Resolving.{within, outcome}
use Rattle.rl_resolve.specs.declared.answer.ResolveFault.{ResolveFault}
use Rattle.rl_resolve.specs.declared.answer.ResolveFault.TheVariants as refusal
use Rattle.rl_resolve.specs.declared.answer.Runs.{Runs}
use Rattle.rl_resolve.specs.declared.answer.Runs.TheVariants as runs

-- ---- what is unrolled

-- drafts whose machines pass no limit have these Specs
pub record IsWithin (u : Unrolled) (drafts : List Draft) (specs : List Spec) : Type 0 where
  pub passes : within u drafts ≡ Ok drafts
  pub described_by : map description specs ≡ map (described u.files) drafts

-- what is unrolled comes to these Specs
pub record IsAcceptedAs (which : Runs) (u : Unrolled) (specs : List Spec) : Type 0 where
  pub drafts : List Draft
  pub accepted : outcome which u ≡ Ok drafts
  pub described_by : map description specs ≡ map (described u.files) drafts

-- it comes to these Specs, or to its refusal
abbrev pub Settles : Runs → Unrolled → Result (List Spec) ResolveFault → Type 0
Settles which u result = MatchResult result (IsAcceptedAs which u) (Explains (outcome which u))

-- ---- a source

-- the blocks of a source come to this, and to nothing else unless the store fails
pub record Comes (held : Held) (file : List ℕ) (blocks : List Syntax) (u : Unrolled) : Type 0 where
  pub unrolls : Unrolls held file blocks u
  pub only : OnlyEnd held file blocks u

-- the source has these Specs, one for each machine in order of first mention
pub record Resolves (held : Held) (file : List ℕ) (blocks : List Syntax) (which : Runs) (specs : List Spec) : Type 0 where
  pub unrolled : Unrolled
  pub comes : Comes held file blocks unrolled
  pub drafts : List Draft
  pub accepted : outcome which unrolled ≡ Ok drafts
  pub described_by : map description specs ≡ map (described unrolled.files) drafts

-- this is the source's first refusal
pub record Refuses (held : Held) (file : List ℕ) (blocks : List Syntax) (which : Runs) (e : ResolveFault) : Type 0 where
  pub unrolled : Unrolled
  pub comes : Comes held file blocks unrolled
  pub refused : outcome which unrolled ≡ Err e

-- and the store did not fail
pub record IsDue (held : Held) (file : List ℕ) (blocks : List Syntax) (which : Runs) (e : ResolveFault) : Type 0 where
  pub unrolled : Unrolled
  pub comes : Comes held file blocks unrolled
  pub refused : outcome which unrolled ≡ Err e
  pub unfailed : IsFailure unrolled.stop → ⊥

-- only memory may be wanted at any time
abbrev pub IsRefusal : Held → List ℕ → List Syntax → Runs → ResolveFault → Type 0
IsRefusal held file blocks which (refusal.Fault fault name) = Refuses held file blocks which (refusal.Fault fault name)
IsRefusal held file blocks which (refusal.Limit limit name) = Refuses held file blocks which (refusal.Limit limit name)
IsRefusal held file blocks which (refusal.Missing name) = Refuses held file blocks which (refusal.Missing name)
IsRefusal held file blocks which (refusal.StoreFailed name) = Refuses held file blocks which (refusal.StoreFailed name)
IsRefusal held file blocks which refusal.Memory = Unit {0}

abbrev pub IsDueRefusal : Held → List ℕ → List Syntax → Runs → ResolveFault → Type 0
IsDueRefusal held file blocks which (refusal.Fault fault name) = IsDue held file blocks which (refusal.Fault fault name)
IsDueRefusal held file blocks which (refusal.Limit limit name) = IsDue held file blocks which (refusal.Limit limit name)
IsDueRefusal held file blocks which (refusal.Missing name) = IsDue held file blocks which (refusal.Missing name)
IsDueRefusal held file blocks which (refusal.StoreFailed name) = IsDue held file blocks which (refusal.StoreFailed name)
IsDueRefusal held file blocks which refusal.Memory = Unit {0}

-- ---- Specs

abbrev pub HasEntry : Spec → Type 0
HasEntry spec = 1 ≤ length spec.entries

-- it is well-formed, where it has an entry
abbrev pub IsFormed : Spec → Type 0
IsFormed spec = HasEntry spec → IsWellFormed spec

abbrev pub is_running : List ℕ → Spec → Bool
is_running name spec = bytes_eq name spec.machine && nat_lt 0 (length spec.entries)

-- the machine that runs is among them, and has an entry
abbrev pub HasRunning : Runs → List Spec → Type 0
HasRunning runs.Nobody specs = Unit {0}
HasRunning runs.First [] = ⊥
HasRunning runs.First (spec ∷ specs) = HasEntry spec
HasRunning (runs.Named name) specs = IsTrue (list_any (is_running name.now) specs)

-- ---- the store's count of faults

abbrev pub IsStoreFailure : ResolveFault → Type 0
IsStoreFailure (refusal.StoreFailed name) = Unit {0}
IsStoreFailure (refusal.Fault fault name) = ⊥
IsStoreFailure (refusal.Limit limit name) = ⊥
IsStoreFailure (refusal.Missing name) = ⊥
IsStoreFailure refusal.Memory = ⊥

abbrev pub IsAccepted : {A : Type 0} → Result A ResolveFault → Type 0
IsAccepted (Ok x) = Unit {0}
IsAccepted (Err e) = ⊥

abbrev pub EndsInStoreFailure : {A : Type 0} → Result A ResolveFault → Type 0
EndsInStoreFailure (Ok x) = ⊥
EndsInStoreFailure (Err e) = IsStoreFailure e

-- It never falls. It rose where the answer is that the store failed. It stays where it did not rise, and where there are
-- Specs; beside a refusal or want of memory the store may have failed at a later include.
pub record HasCount {A : Type 0} (before now : ℕ) (result : Result A ResolveFault) : Type 0 where
  pub later : before ≤ now
  pub failed : EndsInStoreFailure result → Rose before now
  pub unmoved : (Rose before now → ⊥) → now ≡ before
  pub accepted : IsAccepted result → now ≡ before
  pub in_range : before < 2 ^ 64 → now < 2 ^ 64
