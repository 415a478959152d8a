-- The lines of a section that were read.
use Rattle.std.specs.Prelude.{◌≡◌, ℕ, Bool, List, [], drop, length}
use Rattle.rl_cread.specs.declared.raw.Raw.{Raw}
use Rattle.rl_cread.specs.declared.said.Said.{Said}
use Rattle.rl_cread.specs.declared.said.Stop.{Stop}
use Rattle.rl_cread.specs.declared.said.Stop.TheVariants as stop
use Rattle.rl_cread.specs.Lines.{shape, Agrees, IsBadAt, EntriesEnd}
use Rattle.rl_cread.specs.Gathering.{empty, filled}

-- the lines behind the first one are those of this section
pub record ReadsAs (shared : Bool) (name : List ℕ) (lines : List (List ℕ)) (raw : Raw) : Type 0 where
  pub count : ℕ
  pub ends : EntriesEnd name (drop 4 lines) count
  pub said : List Said
  pub agrees : Agrees name (shape shared count) lines (length (shape shared count)) said
  pub is : raw ≡ filled said (record { arrays = empty shared name; entries = [] })

-- the line k behind the first one, from 0, is not the line due in its place
pub record StopsAt (shared : Bool) (name : List ℕ) (lines : List (List ℕ)) (k : ℕ) : Type 0 where
  pub count : ℕ
  pub ends : EntriesEnd name (drop 4 lines) count
  pub bad : IsBadAt name (shape shared count) lines k

abbrev pub Stops : Bool → List ℕ → List (List ℕ) → Stop → Type 0
Stops shared name lines stop.Memory = Unit {0}
Stops shared name lines (stop.BadLine k) = StopsAt shared name lines k
