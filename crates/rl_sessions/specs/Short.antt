-- How far a run reaches back.
use Rattle.std.specs.Prelude.{ℕ, ◌+◌, ◌≤◌, max, Option, Some, None}
use Rattle.rl_run.specs.declared.sessions.Settings.{Settings}
use Rattle.rl_run.specs.Machine.{Session}

-- an open token up to a position is no longer than it may be
abbrev pub IsWithin : ℕ → Option ℕ → ℕ → Type 0
IsWithin most None next = Unit {0}
IsWithin most (Some start) next = next ≤ start + most

-- what holds of a session between turns
pub record IsShort {S : Type 0} (settings : Settings) (s : Session S) : Type 0 where
  pub token : IsWithin settings.token_max s.ts s.next
  pub reach : s.next ≤ s.furthest

-- the most characters from the least position that may still be read up to the next one
abbrev pub most_kept : Settings → ℕ
most_kept settings = max settings.token_max settings.look
