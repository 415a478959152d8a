-- How a window's fields stand for its value.
use Rattle.std.specs.Prelude.{◌≤◌, vec_capacity}
use Rattle.rl_window.specs.WindowValue.{WindowValue, Fits}
use Rattle.rl_window.specs.declared.window.Window.TheInside.{Inside}

abbrev pub window_value : Inside → WindowValue
window_value w = record { width = w.width; base = w.base; bytes = w.bytes.items; capacity = w.capacity }

-- the room is reserved
pub record IsWindow (w : Inside) : Type 0 where
  pub fits : Fits (window_value w)
  pub room : w.capacity ≤ vec_capacity w.bytes
