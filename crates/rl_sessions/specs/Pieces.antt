-- How a window follows an input.
use Rattle.std.specs.Prelude.{◌≡◌, ℕ, ◌+◌, ◌-◌, ◌*◌, ◌<◌, ◌≤◌, List, ◌++◌, length, drop}
use Rattle.rl_run.specs.declared.sessions.Settings.{Settings}
use Rattle.rl_run.specs.Machine.{Session, keep}
use Rattle.rl_window.specs.WindowValue.{WindowValue}
use Rattle.rl_sessions.specs.Short.{IsShort, most_kept}

-- a window before a piece, where a character has so many bytes: what may still be read is in it or behind it, and it
-- has room for a byte more at least
pub record IsReady {S : Type 0} (width : ℕ) (settings : Settings) (w : WindowValue) (s : Session S) : Type 0 where
  pub width_same : w.width ≡ width
  pub low : w.base ≤ keep settings s
  pub short : IsShort settings s
  pub small : length w.bytes < width * (most_kept settings + 1)
  pub room : width * (most_kept settings + 1) ≤ w.capacity

-- of bytes from a character on, the window has the first that may still be read, and the rest stands behind it
pub record IsPart (width base : ℕ) (all : List ℕ) (w : WindowValue) (behind : List ℕ) : Type 0 where
  pub low : base ≤ w.base
  pub same : w.bytes ++ behind ≡ drop (width * (w.base - base)) all
  pub end : width * w.base + length w.bytes + length behind ≡ width * base + length all
