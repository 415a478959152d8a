-- What an upgrade of a printed file writes, and when it does not (this profile).
use Rattle.std.specs.Prelude.{◌≡◌, ◌≢◌, ◌⊎◌, ℕ, List, Option, Result, Ok, Err}
use Rattle.rl_io.specs.Outside.{Held, Rose, Reads, Lacks, Writes}
use Rattle.rl_arrays.specs.declared.arrays.Arrays.{Arrays}
use Rattle.rl_arrays.specs.Section.{section}
use Rattle.rl_cread.specs.Sections.{Explains}
use Rattle.rl_cread.specs.declared.fault.TableFault.{TableFault}
use Rattle.rl_cread.specs.declared.fault.TableFault.TheVariants as marks
use Rattle.rl_arrays.specs.Shared.{upgraded}
use Rattle.rl_cdata.specs.Printed.{IsReadBack}
use Rattle.rl_upgrade.specs.Shows.{ShowsSame}
use Rattle.rl_ends.specs.declared.refusal.Refusal.{Refusal}
use Rattle.rl_ends.specs.declared.refusal.Refusal.TheVariants as refusals
use Rattle.ragel_run.specs.Files.{IsSection, IsSpelled}
use Rattle.ragel_run.specs.Replay.{HasNoSection}

-- a section that is upgraded: that of the machine of this name, or the first, of a printed file; and the file that gets it
pub record Renewal : Type 0 where
  pub machine : Option (List ℕ)
  pub out : List ℕ
  pub spec : List ℕ

-- the new file holds the section of the arrays that the printed file spells, in version 2. It is read back, and all look-ups
-- are the same
pub record Renews (held holds : Held) (r : Renewal) : Type 0 where
  pub arrays : Arrays
  pub spelled : IsSpelled held r.machine r.spec arrays
  pub holds_it : Writes held holds r.out (section (upgraded arrays))
  pub read : IsReadBack (section (upgraded arrays)) (upgraded arrays)
  pub shows : ShowsSame arrays (upgraded arrays)

-- why an upgrade ends before its end; only where the store failed at the new file does a file hold something else
abbrev pub HasNoRenewal : Held → Held → Renewal → ℕ → ℕ → Refusal → Type 0
HasNoRenewal held holds r before now (refusals.StoreFailed file) =
    Rose before now
    × (((file ≡ r.spec) × (holds ≡ held)) ⊎ ((file ≡ r.out) × ((a : Arrays) × IsSpelled held r.machine r.spec a)))
HasNoRenewal held holds r before now e = HasNoSection held r.machine r.spec before now e × (holds ≡ held)

-- how what needs no more than the section of a printed file is to end where the store does not fail
abbrev pub DueBySection : Held → Option (List ℕ) → List ℕ → Result (Unit {0}) Refusal → Type 0
DueBySection held machine spec end =
    (Lacks held spec × (end ≡ Err (refusals.Missing spec)))
    ⊎ ((text : List ℕ) × Reads held spec text × (fault : TableFault) × (fault ≢ marks.Memory) × Explains machine text fault
    × (end ≡ Err (refusals.Section fault spec)))
    ⊎ ((text : List ℕ) × Reads held spec text × (a : Arrays) × IsSection machine text a × (end ≡ Ok tt))

-- how an upgrade is to end
abbrev pub DueByRenewal : Held → Renewal → Result (Unit {0}) Refusal → Type 0
DueByRenewal held r end = DueBySection held r.machine r.spec end
