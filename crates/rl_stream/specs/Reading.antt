-- Where the reading of an input and the writing of its lines stand.
use Rattle.std.specs.Prelude.{◌≡◌, ◌≢◌, ℕ, ◌≤◌, Bool, List, [], ◌++◌, length, Option, Some, None}
use Rattle.rl_types.specs.Limits.{most_input_bytes}
use Rattle.rl_run.specs.declared.sessions.Settings.{Settings}
use Rattle.rl_run.specs.Machine.{Machine}
use Rattle.rl_arrays.specs.declared.arrays.Arrays.{Arrays}
use Rattle.rl_io.specs.Outside.{Appends, AppendsPrefix}
use Rattle.rl_blocks.specs.Blocks.{IsLonger}
use Rattle.rl_sessions.specs.SessionsValue.{SessionsValue}
use Rattle.rl_stream.specs.declared.log.Log.{Log}
use Rattle.rl_stream.specs.declared.fault.StreamFault.{StreamFault}
use Rattle.rl_stream.specs.declared.fault.StreamFault.TheVariants.{InputFailed, OutputFailed, TooLong}
use Rattle.rl_stream.specs.Log.{tables_of}
use Rattle.rl_stream.specs.Stands.{Stands, Feeds, Finishes}
use Rattle.rl_stream.specs.Streams.{Streams, LeavesFront, LeavesEvents, LeavesOpen, HasTooMany}

-- these bytes were read of what was left
abbrev pub HasRead : Option (List ℕ) → List ℕ → Option (List ℕ) → Type 0
HasRead None bytes after = Unit {0}
HasRead (Some left) bytes after = (rest : List ℕ) × (bytes ++ rest ≡ left) × (after ≡ Some rest)

-- the bytes so far were read and run over, and all their lines were written
pub record Reading (a : Arrays) (settings : Settings) (entry : ℕ) (left after old new : Option (List ℕ)) (count : ℕ) (is_over : Bool) (log : Log) (sessions : SessionsValue) : Type 0 where
  pub bytes : List ℕ
  pub written : List ℕ
  pub counted : length bytes ≡ count
  pub few : count ≤ most_input_bytes
  pub read : HasRead left bytes after
  pub wrote : Appends old new written
  pub stands : Stands a settings entry bytes written is_over log sessions
  pub empty : log.text.items ≡ []

-- nothing is left of the input
abbrev pub IsAtEnd : Option (List ℕ) → Option (List ℕ) → Type 0
IsAtEnd None after = Unit {0}
IsAtEnd (Some left) after = after ≡ Some []

-- the lines of a piece were written
pub record Passes (was_over is_over : Bool) (piece : List ℕ) (old new : Log) (from to : SessionsValue) (before now : Option (List ℕ)) : Type 0 where
  pub mid : Log
  pub feeds : Feeds was_over is_over piece old mid from to
  pub wrote : Appends before now mid.text.items
  pub empty : new.text.items ≡ []
  pub tables : tables_of new ≡ tables_of mid

-- they were not: nothing was written, or, where the output failed, a front of them
pub record Breaks (was_over : Bool) (piece : List ℕ) (old : Log) (from : SessionsValue) (before now : Option (List ℕ)) (fault : StreamFault) : Type 0 where
  pub kept : fault ≢ OutputFailed → now ≡ before
  pub front : fault ≡ OutputFailed → (is_over : Bool) × (mid : Log) × (to : SessionsValue) × Feeds was_over is_over piece old mid from to × AppendsPrefix before now mid.text.items
  pub no_input : fault ≢ InputFailed
  pub no_length : fault ≢ TooLong

-- why no block came
pub record Stops (left after : Option (List ℕ)) (room : ℕ) (fault : StreamFault) : Type 0 where
  pub failed : fault ≡ InputFailed → after ≡ left
  pub too_long : fault ≡ TooLong → IsLonger left room
  pub no_output : fault ≢ OutputFailed

-- what stands in the output where the run was not brought to its end
pub record Leaves (m : Machine ℕ) (settings : Settings) (entry : ℕ) (left after old new : Option (List ℕ)) (fault : StreamFault) : Type 0 where
  pub front : LeavesFront m settings entry left old new
  pub events : fault ≢ OutputFailed → LeavesEvents m settings entry left old new
  pub open_lines : fault ≡ InputFailed → LeavesOpen m settings entry left after old new
  pub too_many : fault ≡ TooLong → HasTooMany left

-- all of the input was read so
pub record AllRead (a : Arrays) (settings : Settings) (entry : ℕ) (left after old new : Option (List ℕ)) (is_over : Bool) (log : Log) (sessions : SessionsValue) : Type 0 where
  pub count : ℕ
  pub reading : Reading a settings entry left after old new count is_over log sessions
  pub ended : IsAtEnd left after

-- the lines of the end were written
pub record Closes (was_over : Bool) (old : Log) (from : SessionsValue) (before now : Option (List ℕ)) : Type 0 where
  pub mid : Log
  pub finishes : Finishes was_over old mid from
  pub wrote : Appends before now mid.text.items

-- they were not
pub record ClosesNot (was_over : Bool) (old : Log) (from : SessionsValue) (before now : Option (List ℕ)) (fault : StreamFault) : Type 0 where
  pub kept : fault ≢ OutputFailed → now ≡ before
  pub front : fault ≡ OutputFailed → (mid : Log) × Finishes was_over old mid from × AppendsPrefix before now mid.text.items
  pub no_input : fault ≢ InputFailed
  pub no_length : fault ≢ TooLong
