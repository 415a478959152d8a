-- What a feed sees and answers.
use Rattle.std.specs.Prelude.{ℕ, List, true, false, Option, Some, None}
use Rattle.rl_run.specs.declared.calls.Outcome.{Outcome}
use Rattle.rl_run.specs.declared.calls.Outcome.TheVariants.{Wants, Broke, Ended, Stopped}
use Rattle.rl_run.specs.declared.sessions.Settings.{Settings}
use Rattle.rl_run.specs.declared.sessions.Spot.{Spot}
use Rattle.rl_run.specs.Machine.{Session, keep}
use Rattle.rl_run.specs.Run.{Input, input_at}
use Rattle.rl_types.specs.declared.numbers.Key.{Key}

-- the bytes from a position on, of an input that may go on, by the width of its characters
abbrev pub window_of : ℕ → ℕ → List ℕ → Input
window_of width base bytes = input_at width base bytes false

-- the bytes from a position on, which are the last
abbrev pub closed_of : ℕ → ℕ → List ℕ → Input
closed_of width base bytes = input_at width base bytes true

-- where the turn for the character of a key stands
abbrev pub spot_by : {S : Type 0} → Settings → Session S → Key → Spot
spot_by settings s key = record { at = s.next; key = Some key; floor = keep settings s; is_end = false }

abbrev pub UnlessStopped : Outcome → Type 0 → Type 0
UnlessStopped (Stopped cause) P = Unit {0}
UnlessStopped Wants P = P
UnlessStopped Broke P = P
UnlessStopped Ended P = P

-- what is over for good
abbrev pub over_after : Outcome → Option Outcome
over_after Wants = None
over_after Broke = None
over_after Ended = Some Ended
over_after (Stopped cause) = Some (Stopped cause)
