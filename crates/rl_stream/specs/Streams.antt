-- What the run over an input writes, however the input is cut into blocks.
use Rattle.std.specs.Prelude.{◌≡◌, ℕ, ◌<◌, true, false, List, [], ◌++◌, length, Option, Some, None}
use Rattle.rl_types.specs.Limits.{most_input_bytes}
use Rattle.rl_run.specs.declared.sessions.Settings.{Settings}
use Rattle.rl_run.specs.Machine.{Machine}
use Rattle.rl_io.specs.Outside.{Appends, AppendsPrefix}
use Rattle.rl_stream.specs.Lines.{lines_over}

module _ (m : Machine ℕ) (settings : Settings) (entry : ℕ) where
  -- all of the input was read, and the lines of the run over it to its end were written
  abbrev pub Streams : Option (List ℕ) → Option (List ℕ) → Option (List ℕ) → Option (List ℕ) → Type 0
  Streams None after old new = Unit {0}
  Streams (Some left) after old new = (after ≡ Some []) × Appends old new (lines_over m settings entry left true)

  -- a front of these lines was written
  abbrev pub LeavesFront : Option (List ℕ) → Option (List ℕ) → Option (List ℕ) → Type 0
  LeavesFront None old new = Unit {0}
  LeavesFront (Some left) old new = AppendsPrefix old new (lines_over m settings entry left true)

  -- the lines of the run over a front of the input, which is not ended, were written: whole events
  abbrev pub LeavesEvents : Option (List ℕ) → Option (List ℕ) → Option (List ℕ) → Type 0
  LeavesEvents None old new = Unit {0}
  LeavesEvents (Some left) old new =
      (front : List ℕ) × (rest : List ℕ) × (front ++ rest ≡ left) × Appends old new (lines_over m settings entry front false)

  -- and this front is all that was read
  abbrev pub LeavesOpen : Option (List ℕ) → Option (List ℕ) → Option (List ℕ) → Option (List ℕ) → Type 0
  LeavesOpen None after old new = Unit {0}
  LeavesOpen (Some left) after old new =
      (front : List ℕ) × (rest : List ℕ) × (front ++ rest ≡ left) × (after ≡ Some rest) × Appends old new (lines_over m settings entry front false)

-- there are more bytes than an input may have, where that is told
abbrev pub HasTooMany : Option (List ℕ) → Type 0
HasTooMany None = Unit {0}
HasTooMany (Some left) = most_input_bytes < length left
